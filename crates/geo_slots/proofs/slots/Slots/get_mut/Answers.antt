use Rattle.std.proofs.Common.{◌≡◌, Some, None, is_some, ap, sym, ◌∙◌, inr}
use borrow.Follows.Closed.{read_of}
use Rattle.std.specs.Option.{ghost_name_of}
use Rattle.slab.proofs.SlabLemmas.{Updates-with_value}
use Rattle.geo_slots.specs.Slots.{with_value}
use Rattle.geo_slots.specs.Pages.{key_at}
use Rattle.geo_slots.proofs.TableLemmas.{shows, rows_with_value, index_with_value, key_held, HasRoomFor-with_value}
use Rattle.geo_slots.proofs.slots.Slots.get_mut.Goals as goal

-- whatever is written, the key still has a value and is still the number's alone
pub invariant_of-self-lent : goal.invariant_of-self-lent
invariant_of-self-lent g c =
    let found : key_at c.self.inside.index.pages.items c.args.number ≡ Some c.in-Some.key = sym c.key_of.ensures
    ∙ c.in-Some.is in
    let held = key_held _ _ _ _ _ c.self.invariant c.args.number _ found in λ _. (
      λ w.
          let updates = Updates-with_value c.self.inside.values c.in-Some.key w (ap is_some held.1) in
          let room = HasRoomFor-with_value c.self.inside.values c.in-Some.key c.self.inside.spare w held
          c.self.invariant.room in
          index_with_value _ _ _ _ _ c.self.invariant _ c.args.number _ w found updates room,
      c.self.invariant,
    )

-- the last value written stands under the number's key, so it shows under the number, and the rest stays
pub returns-in-Some : goal.returns-in-Some
returns-in-Some g c =
    let found : key_at c.self.inside.index.pages.items c.args.number ≡ Some c.in-Some.key = sym c.key_of.ensures
    ∙ c.in-Some.is in
    let held = key_held _ _ _ _ _ c.self.invariant c.args.number _ found in
    let seen = shows _ _ _ _ _ c.self.invariant c.args.number c.args.self.now (Some c.in-Some.key) c.self.view_is
    (sym found) in
    let rows = λ (w : g.row.T.Denot). rows_with_value _ _ _ _ _ c.self.invariant _ c.args.number _ w found
    (Updates-with_value c.self.inside.values c.in-Some.key w (ap is_some held.1)) in (
      (λ i. read_of (ghost_name_of c.get_mut.result)
          (λ w. record {
            rows = (rows w ∙ ap (λ v. with_value v.rows c.args.number w) c.self.view_is) i;
            next =
                (c.self.view_is i).next;
            spare = (c.self.view_is i).spare;
          }) (c.self.view_is i)),
      record {
        writes_back = tt;
        value = c.get_mut.ensures.value ∙ seen.value;
        rising = seen.rising;
        bound = seen.bound;
      },
    )

-- a number without a key has no value, so nothing is lent and nothing changes
pub returns-in-None : goal.returns-in-None
returns-in-None g c =
    let seen = shows _ _ _ _ _ c.self.invariant c.args.number c.args.self.now None c.self.view_is
    (sym c.in-None.is ∙ c.key_of.ensures) in
    (ap inr c.self.view_is, record { writes_back = tt; value = seen.value; rising = seen.rising; bound = seen.bound })
