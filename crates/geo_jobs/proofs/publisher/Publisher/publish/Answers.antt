use Rattle.std.proofs.Common.{rules, arith, ◌∙◌, ◌∷◌, List, Some, ap, sym, subst}
use mathlib.Core.List.{IsPrefix}
use Rattle.atomic_table.specs.Table.{rest}
use Rattle.geo_model.specs.declared.step.Entry.{Entry}
use Rattle.geo_jobs.specs.Passes.{MeshPass}
use Rattle.geo_jobs.specs.Views.{AreOnePass}
use Rattle.geo_jobs.proofs.Publishing.{shows_as}
use Rattle.geo_jobs.proofs.publisher.Publisher.publish.Goals as goal

-- the back slot has the list, which the same pass shows, and has seen no less than was shown before
pub swap-found-requires : goal.swap-found-requires
swap-found-requires g c = let i = c.self.invariant.3.1 in let e = c.exchange.ensures.3 in
    let x = c.shown_at-shown.result in let at = c.shown_at-shown.ensures.1 in let of = c.requires.pass.of in (
      search rules,
      search rules,
      shows_as _ _ _ _ c.self.inside.back x _
          (ap (λ m. m.1) e ∙ ap (λ z. (c.self.inside.back, Some x) ∷ rest z) i.slot.1) (ap (λ m. m.0.role) e ∙ i.role)
          of.0 (ap (λ m. m.0.of) e ∙ (ap (λ p. p.of) c.self.view_is ∙ of.1))
          (subst (λ (z : MeshPass). AreOnePass of.0 z) (sym at) of.2)
          (subst (λ (z : List Entry × List Entry). IsPrefix z.0 z.1)
          (λ k. (sym (ap (λ m. m.0.seen) e ∙ ap (λ p. p.stands) c.self.view_is) k, sym (ap (λ p. p.seen) at) k))
          c.requires.pass.later) (omega arith),
    )
