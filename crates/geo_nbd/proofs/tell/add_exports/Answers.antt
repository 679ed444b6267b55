use Rattle.std.proofs.Common.{◌≡◌, ◌+◌, ◌++◌, ◌∷◌, [], List, take, flat_map, sym, ap, ◌∙◌}
use Rattle.std.proofs.lemmas.List.{flat_map_more, take_more}
use Rattle.geo_nbd.specs.declared.export.Export.{Export}
use Rattle.geo_nbd.specs.Handshake.{server_reply}
use Rattle.geo_nbd.proofs.tell.add_exports.Goals as goal

-- one more is told
pub loop-export-preserved : goal.loop-export-preserved
loop-export-preserved c =
    let i = c.loop-export.export-index in
    let xs = c.args.exports.now in
    let x = c.export-item.result in
    let grown : take (i + 1) xs ≡ take i xs ++ x ∷ [] =
    take_more xs i x c.loop-export-test.true ∙ ap (λ (y : Export). take i xs ++ y ∷ []) (sym c.export-item.is) in
    c.in_ok-add_export.ensures ∙ ap (λ told. told ++ server_reply x) c.loop-export.invariant
    ∙ flat_map_more server_reply c.args.sent.now (take i xs) x
    ∙ ap (λ (ys : List Export). c.args.sent.now ++ flat_map server_reply ys) (sym grown)
