use Rattle.std.proofs.Common.{◌≡◌, ℕ, ◌+◌, ◌-◌, ◌≤◌, suc, length, take, [], ◌∷◌, ◌++◌, refl, sym, subst, arith}
use Rattle.std.specs.List.{AllZip}
use Rattle.std.proofs.lemmas.Option.{slice_get_read}
use Rattle.geo_model.specs.Plans.{IsFact}
use Rattle.geomnbd.proofs.Fitting.{facts_push}
use Rattle.geomnbd.proofs.setup.fitted.Goals as goal

pub loop-decl-preserved : goal.loop-decl-preserved
loop-decl-preserved g c =
    let disks = c.disks-decl-items.result.now in
    let k = c.loop-decl.decl-index in
    let fact : ℕ × ℕ = (c.in_ok-sector.sector, c.in_ok-sector.sectors) in
    let fit : AllZip IsFact (take (suc k) disks) (c.loop-decl.facts.items ++ fact ∷ []) =
    facts_push disks c.loop-decl.facts.items k c.decl-item.result fact c.loop-decl.invariant.fit
    (slice_get_read disks (length disks) k c.decl-item.result refl c.loop-decl-test.true c.decl-item.is)
    c.in_ok-sector.ensures in
    let low = c.loop-decl.invariant.room in
    let there = c.loop-decl-test.true in
    let room : length disks ≤ k + 1 + (c.loop-decl.facts.spare - 1) = omega (arith, low, there) in
    let next : suc k ≡ k + 1 = omega arith in
    record {
      fit = subst (λ f. AllZip IsFact (take (k + 1) disks) f.items) (sym c.push.ensures)
          (subst (λ n. AllZip IsFact (take n disks) (c.loop-decl.facts.items ++ fact ∷ [])) next fit);
      room = subst (λ f. length disks ≤ k + 1 + f.spare) (sym c.push.ensures) room;
    }
