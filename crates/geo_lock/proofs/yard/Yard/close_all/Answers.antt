use Rattle.std.proofs.Common.{◌∙◌, ap, sym, slice_get, suc, ◌+◌, add-one}
use lib.ListN.{get_elem?}
use Rattle.geo_lock.specs.Pass.{claim_of}
use Rattle.geo_lock.proofs.Closing.{split_first, close_all, close_result}
use Rattle.geo_lock.proofs.yard.Yard.close_all.Goals as goal

-- What joining asks: all passes are of the yard, and the first has number 0 and holds no state
pub join_all-requires-clause-own : goal.join_all-requires-clause-own
join_all-requires-clause-own g c = let is =
    split_first _ _ _ c.requires.some_pass c.remove.ensures.value c.remove.ensures.by_index.2 in
    c.into_seat-seat.ensures.yard ∙ (c.requires.of_yard 0 _ (ap (λ z. slice_get z 0) is)).0.yard

pub join_all-requires-clause-of_yard : goal.join_all-requires-clause-of_yard
join_all-requires-clause-of_yard g c = let is =
    split_first _ _ _ c.requires.some_pass c.remove.ensures.value c.remove.ensures.by_index.2 in
    λ k p e. (c.requires.of_yard (k + 1) p (rw (add-one k) (ap (λ z. slice_get z (suc k)) is ∙ e))).0.yard

pub join_all-requires-clause-first : goal.join_all-requires-clause-first
join_all-requires-clause-first g c = let is =
    split_first _ _ _ c.requires.some_pass c.remove.ensures.value c.remove.ensures.by_index.2 in (
      ap (λ z. z.1) c.into_seat-seat.ensures.rests,
      (
        claim_of c.remove.result,
        ap (λ z. get_elem? z.0.claims 0) c.into_seat-seat.ensures.rests,
        (c.requires.of_yard 0 _ (ap (λ z. slice_get z 0) is)).1,
      ),
    )

pub close_with-closed-requires : goal.close_with-closed-requires
close_with-closed-requires g c = let is =
    split_first _ _ _ c.requires.some_pass c.remove.ensures.value c.remove.ensures.by_index.2 in
    c.join_all.ensures.same.0
    ∙ (c.into_seat-seat.ensures.yard
    ∙ ((c.requires.of_yard 0 _ (ap (λ z. slice_get z 0) is)).0.yard ∙ sym (ap (λ z. z.yard) c.self.view_is)))

-- all passes were joined and none has the turn, so the state is in its slot
pub unreachable-requires : goal.unreachable-requires
unreachable-requires g c = let is =
    split_first _ _ _ c.requires.some_pass c.remove.ensures.value c.remove.ensures.by_index.2 in
    let t = close_all g.L.Logged.start g.L.Logged.log g.L.Logged.lawful g.L.Logged.seat_of c.args.self _
    (ap (λ z. z.start) c.self.view_is) c.args.passes.items _ _ is c.requires _ _ _
    c.into_seat-seat.ensures.rests c.join_all.ensures.joined _ _ c.close_with-closed.ensures.values.2 _
    c.take-left.ensures.value in
    c.in_default.not-Some t.0 t.1

-- the joined claims say of each pass what its own entries are, and all entries are of these
pub returns : goal.returns
returns g c = let is = split_first _ _ _ c.requires.some_pass c.remove.ensures.value c.remove.ensures.by_index.2 in
    close_result g.L.Logged.start g.L.Logged.log g.L.Logged.lawful g.L.Logged.seat_of c.args.self
    c.args.passes.items c.take-left.result
    (close_all g.L.Logged.start g.L.Logged.log g.L.Logged.lawful g.L.Logged.seat_of c.args.self _
    (ap (λ z. z.start) c.self.view_is) c.args.passes.items _ _ is c.requires _ _ _
    c.into_seat-seat.ensures.rests c.join_all.ensures.joined _ _ c.close_with-closed.ensures.values.2 _
    c.take-left.ensures.value) c.in-Some.state c.in-Some.is
