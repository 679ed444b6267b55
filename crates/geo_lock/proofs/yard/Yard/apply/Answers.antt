use Rattle.std.proofs.Common.{◌≡◌, ◌∙◌, [], ◌∷◌, ◌++◌, IfOk, ap, arith, sym, subst}
use lib.ListN.{get_elem?}
use mathlib.Core.List.{IsPrefix}
use Rattle.geo_lock.specs.Logged.{entries_with_seat, Grows}
use Rattle.geo_lock.specs.View.{out_of_turn, first_number}
use Rattle.geo_lock.specs.Pass.{own_of}
use Rattle.geo_lock.proofs.Prefixes.{prefix_trans}
use Rattle.geo_lock.proofs.Sounds.{claims_are, start_is, turned_sound, grown, makes, unmade, refused, sure, own_after}
use Rattle.geo_lock.proofs.yard.Yard.apply.Goals as goal

-- a pass that isn't in a turn holds no state, and has its claim
pub enter-word-requires-clause-rests : goal.enter-word-requires-clause-rests
enter-word-requires-clause-rests g c = let e = c.pass.invariant.0.1.me_is in
    (ap (λ m. m.1) e, (_, ap (λ m. get_elem? m.0.claims 0) e))

-- the step added its entry with the number of the pass, or nothing
pub leave-requires-clause-grows : goal.leave-requires-clause-grows
leave-requires-clause-grows g c = let e = c.enter-word.ensures.turn in let m = c.apply_as-result.ensures in (
  _,
  ap (λ m. m.0.claims) e ∙ claims_are _ _ _ _ _ _ c.pass.invariant.0.1,
  subst (λ z. Grows g.L.Logged.seat_of c.pass.inside.number z.0.seen (g.L.Logged.log c.apply_as-result.new.self))
      (sym e)
      (grown g.L.Logged.log g.L.Logged.seat_of c.pass.inside.number
      (λ o. g.L.Logged.entry c.pass.inside.number c.args.step o) c.enter-word.result.1 c.apply_as-result.new.self
      (λ o. g.met.L.Logged.seat_is c.pass.inside.number c.args.step o) c.apply_as-result.result m.ok m.err),
)

-- the pass has seen the log that it left, in which its own entries are those with its number
pub invariant_of-pass : goal.invariant_of-pass
invariant_of-pass g c = let e = c.enter-word.ensures.turn in let m = c.apply_as-result.ensures in let f =
    c.enter-word.ensures.found in
    let same = m.start ∙ f.start_is _ (start_is g.L.Logged.lawful g.L.Logged.seat_of _ _ _ _ c.pass.invariant.0.1) in (
      turned_sound g.L.Logged.lawful g.L.Logged.seat_of _ _ _ _ c.pass.invariant.0.1 g.L.Logged.start g.L.Logged.log _
          _ f (g.L.Logged.log c.apply_as-result.new.self)
          (grown g.L.Logged.log g.L.Logged.seat_of c.pass.inside.number
          (λ o. g.L.Logged.entry c.pass.inside.number c.args.step o) c.enter-word.result.1 c.apply_as-result.new.self
          (λ o. g.met.L.Logged.seat_is c.pass.inside.number c.args.step o) c.apply_as-result.result m.ok m.err)
          (subst (λ z. g.L.Logged.lawful z (g.L.Logged.log c.apply_as-result.new.self)) same m.lawful) _
          (c.leave.ensures.turn
          ∙ ap (λ z. (out_of_turn g.L.Logged.seat_of z.0 (g.L.Logged.log c.apply_as-result.new.self), [])) e),
      (let n = c.leave.ensures.seen in omega arith),
    )

-- what the pass had seen is the front of the log that it found, and that of the log that it left
pub returns-clause-longer : goal.returns-clause-longer
returns-clause-longer g c = let m = c.apply_as-result.ensures in let f = c.enter-word.ensures.found in
    rw (← c.pass.view_is, ap (λ z. z.0.seen) c.leave.ensures.turn)
    (prefix_trans _ (g.L.Logged.log c.enter-word.result.1) _ f.longer
    (grown g.L.Logged.log g.L.Logged.seat_of c.pass.inside.number
    (λ o. g.L.Logged.entry c.pass.inside.number c.args.step o) c.enter-word.result.1 c.apply_as-result.new.self
    (λ o. g.met.L.Logged.seat_is c.pass.inside.number c.args.step o) c.apply_as-result.result m.ok m.err).longer)

-- the log that it found holds the same own entries as before, and the new one is behind them
pub returns-clause-made : goal.returns-clause-made
returns-clause-made g c = let m = c.apply_as-result.ensures in let f = c.enter-word.ensures.found in let n =
    ap (λ p. p.number) c.pass.view_is in
    let same = f.start_is c.args.self.now.start (ap (λ p. p.start) c.pass.view_is ∙ c.requires.start) in
    let claims = claims_are g.L.Logged.lawful g.L.Logged.seat_of _ _ _ _ c.pass.invariant.0.1 in
    makes g.L.Logged.log g.L.Logged.seat_of g.L.Logged.is_no_memory c.args.pass.now.number
    (λ o. g.L.Logged.entry c.args.pass.now.number c.args.step o) c.enter-word.result.1 c.apply_as-result.new.self
    (λ o. g.met.L.Logged.seat_is c.args.pass.now.number c.args.step o)
    (λ h. g.L.Logged.answer c.args.self.now.start h c.args.pass.now.number c.args.step) c.args.pass.now _
    (subst (λ p. IsPrefix p.seen (g.L.Logged.log c.enter-word.result.1)) c.pass.view_is f.longer)
    (subst (λ p. entries_with_seat g.L.Logged.seat_of p.number (g.L.Logged.log c.enter-word.result.1) ≡ p.own)
    c.pass.view_is (f.own _ (ap (λ z. get_elem? z 0) claims)))
    (ap (λ z. z.0.seen) c.leave.ensures.turn)
    (own_after g.L.Logged.seat_of (g.L.Logged.log c.apply_as-result.new.self) _ c.enter-word.new.seat.me _
    c.leave.ensures.turn (ap (λ z. first_number z.0.claims) c.enter-word.ensures.turn ∙ (ap first_number claims ∙ n)))
    c.apply_as-result.result
    (subst (λ k. IfOk c.apply_as-result.result (λ o. g.L.Logged.log c.apply_as-result.new.self
    ≡ g.L.Logged.log c.enter-word.result.1 ++ g.L.Logged.entry k c.args.step o ∷ [])) n m.ok)
    (λ w. m.answer w ∙ (λ i. g.L.Logged.answer (same i) (g.L.Logged.log c.enter-word.result.1) (n i) c.args.step))

-- a refused step adds nothing, so the entries with the number of the pass are those before
pub returns-clause-unmade : goal.returns-clause-unmade
returns-clause-unmade g c = let f = c.enter-word.ensures.found in let n = ap (λ p. p.number) c.pass.view_is in
    let claims = claims_are g.L.Logged.lawful g.L.Logged.seat_of _ _ _ _ c.pass.invariant.0.1 in
    unmade g.L.Logged.log g.L.Logged.seat_of g.L.Logged.is_no_memory c.args.pass.now.number c.enter-word.result.1
    c.apply_as-result.new.self c.args.pass.now.own (own_of c.leave.new.seat.me.0.claims)
    (subst (λ p. entries_with_seat g.L.Logged.seat_of p.number (g.L.Logged.log c.enter-word.result.1) ≡ p.own)
    c.pass.view_is (f.own _ (ap (λ z. get_elem? z 0) claims)))
    (own_after g.L.Logged.seat_of (g.L.Logged.log c.apply_as-result.new.self) _ c.enter-word.new.seat.me _
    c.leave.ensures.turn (ap (λ z. first_number z.0.claims) c.enter-word.ensures.turn ∙ (ap first_number claims ∙ n)))
    c.apply_as-result.result c.apply_as-result.ensures.err

-- Both for a refusal: it adds nothing, so the state was asked with the log that the pass has seen now
pub returns-clause-refused : goal.returns-clause-refused
returns-clause-refused g c = let m = c.apply_as-result.ensures in let n = ap (λ p. p.number) c.pass.view_is in
    let same = c.enter-word.ensures.found.start_is c.args.self.now.start (ap (λ p. p.start) c.pass.view_is
    ∙ c.requires.start) in
    refused g.L.Logged.log g.L.Logged.seat_of g.L.Logged.is_no_memory c.args.pass.now.number c.enter-word.result.1
    c.apply_as-result.new.self
    (λ h. g.L.Logged.answer c.args.self.now.start h c.args.pass.now.number c.args.step)
    c.leave.new.seat.me.0.seen (ap (λ z. z.0.seen) c.leave.ensures.turn)
    c.apply_as-result.result m.err
    (λ w. m.answer w ∙ (λ i. g.L.Logged.answer (same i) (g.L.Logged.log c.enter-word.result.1) (n i) c.args.step))

pub returns-clause-sure : goal.returns-clause-sure
returns-clause-sure g c = let m = c.apply_as-result.ensures in let n = ap (λ p. p.number) c.pass.view_is in
    let same = c.enter-word.ensures.found.start_is c.args.self.now.start (ap (λ p. p.start) c.pass.view_is
    ∙ c.requires.start) in
    sure g.L.Logged.log g.L.Logged.seat_of g.L.Logged.is_no_memory c.args.pass.now.number c.enter-word.result.1
    c.apply_as-result.new.self
    (λ h. g.L.Logged.takes_no_memory c.args.self.now.start h c.args.pass.now.number c.args.step)
    c.leave.new.seat.me.0.seen (ap (λ z. z.0.seen) c.leave.ensures.turn)
    c.apply_as-result.result m.err
    (λ t. m.sure
    ((λ i. g.L.Logged.takes_no_memory (same i) (g.L.Logged.log c.enter-word.result.1) (n i) c.args.step) ∙ t))
