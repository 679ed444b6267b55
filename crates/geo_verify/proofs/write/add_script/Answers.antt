use Rattle.std.proofs.Common.{◌≡◌, ◌++◌, ◌∷◌, [], List, ℕ, OnOk, sym, ◌∙◌, ap, subst}
use Rattle.std.proofs.lemmas.List.{append_assoc}
use Rattle.geo_verify.proofs.WrittenOut.{ended_else}
use Rattle.geo_verify.proofs.write.add_script.Goals as goal

-- the last line isn't ended, so a line feed is added
pub returns-else-is_ended : goal.returns-else-is_ended
returns-else-is_ended c =
    let P : List ℕ → Type 0 = λ xs. OnOk c.add-else-is_ended.result (c.add-else-is_ended.new.self ≡ xs) in
    subst P
    (ap (λ (xs : List ℕ). xs ++ 10 ∷ []) c.in_ok-add.ensures
    ∙ append_assoc c.args.text.now c.args.script.now (10 ∷ [])
    ∙ ap (λ (xs : List ℕ). c.args.text.now ++ xs)
    (sym (ended_else c.args.script.now (sym c.is_ended.ensures ∙ c.if-is_ended.false))))
    c.add-else-is_ended.ensures
