use Rattle.std.proofs.Common.{◌∙◌, ◌∷◌, [], ap, refl, arith}
use Rattle.geo_model.specs.Bios.{new_bio}
use Rattle.geo_model.specs.World.{BioOf, is_down}
use Rattle.geo_bio.specs.declared.bio.Held.{Held}
use Rattle.geo_state.specs.Cursors.{with_last}
use Rattle.std.proofs.lemmas.List.Sums.{count_by-le-length}
use Rattle.geo_state.proofs.TrafficLemmas.{down_come, fewer_with_one, kept_same}
use Rattle.geo_state.proofs.traffic.Traffic.submit.Goals as goal

-- those Down were no more than all bios, which are fewer than the numbers also with the new one
pub with_last-self-inside-requires : goal.with_last-self-inside-requires
with_last-self-inside-requires c =
    let old = c.self.inside.bios in
    let few = fewer_with_one old.bios _ c.submit.new.self c.in_ok-bio.ensures.in_order c.in_ok-bio.ensures.submitted in
    let some = count_by-le-length (λ (y : BioOf Held). is_down y.phase) old.bios in
    omega (arith, few, some, c.in_ok-bio.ensures.bound, c.self.invariant.counted.starts.count)

pub overflow_add-self : goal.overflow_add-self
overflow_add-self c =
    let old = c.self.inside.bios in
    let few = fewer_with_one old.bios _ c.submit.new.self c.in_ok-bio.ensures.in_order c.in_ok-bio.ensures.submitted in
    omega (arith, few, c.in_ok-bio.ensures.bound, c.self.invariant.counted.all)

-- the new bio is Down, and has the greatest number
pub invariant_of-self-2 : goal.invariant_of-self-2
invariant_of-self-2 c =
    let now = c.self.inside in
    let x : BioOf Held = new_bio now.bios.next c.args.cmd c.args.span.offset c.args.span.len c.args.bytes c.args.from
    c.args.to c.args.owner in
    let counted = down_come now.bios.bios (x ∷ []) now.down now.sent now.up now.busy now.live now.bios.next 1
    c.self.invariant.counted (refl, tt) refl refl in
    let down = c.with_last-self-inside.ensures
    ∙ ap (λ n. with_last now.down n 1) (c.number.ensures ∙ c.in_ok-bio.ensures.number) in
    record {
      in_order = c.in_ok-bio.ensures.in_order;
      bound = c.in_ok-bio.ensures.bound;
      counted = rw (c.in_ok-bio.ensures.submitted, down) counted;
    }

pub invariant_of-self : goal.invariant_of-self
invariant_of-self c =
    kept_same c.self.inside.bios c.submit.new.self c.in_err-bio.ensures.bios_stay c.in_err-bio.ensures.next_stays
    c.self.invariant
