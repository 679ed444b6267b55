use Rattle.std.proofs.Common.{◌≡◌, ℕ, List, ap, subst, sym, ◌∙◌, heap_items}
use Rattle.std.proofs.lemmas.List.Sorted.{IsPermutation-sym}
use Rattle.geo_elev.specs.Front.{keys_in, keys_of, with_key}
use Rattle.geo_elev.proofs.Fronts.{left_ahead, left_behind, left_moved, more_first, more_second, swapped}
use Rattle.geo_elev.proofs.front.Front.take.Goals as goal

-- none is ahead: the least of those behind
pub invariant_of-self-else-moves : goal.invariant_of-self-else-moves
invariant_of-self-else-moves c =
    left_behind c.self.inside.ahead.data.items c.self.inside.behind.data.items c.self.inside.head c.self.invariant
    c.args.key c.take_top.new.heap.data.items c.take_top.ensures.order
    (c.take_top.ensures.taken c.if-not-take_top.false)

pub returns-then-moves-clause-taken : goal.returns-then-moves-clause-taken
returns-then-moves-clause-taken c taken =
    let a = c.self.inside.ahead.data.items in
    let b = c.self.inside.behind.data.items in
    let new = c.take_top.new.heap.data.items in
    subst (λ (ks : List ℕ). ks ≡ with_key c.args.key (keys_of c.swap.new.x.data.items c.swap.new.y.data.items))
    c.self.view_is
    (more_second c.args.key (keys_in new) (keys_in b) (keys_in a)
    (IsPermutation-sym (keys_in b) _ (c.take_top.ensures.taken c.if-not-take_top.false))
    ∙ ap (with_key c.args.key) (sym (swapped (keys_in a) (keys_in new))
    ∙ sym (ap (λ rs. keys_of rs c.swap.new.y.data.items) (ap heap_items c.swap.ensures.x_after)
    ∙ ap (λ rs. keys_of new rs) (ap heap_items c.swap.ensures.y_after))))

pub returns-else-moves-clause-taken : goal.returns-else-moves-clause-taken
returns-else-moves-clause-taken c taken =
    let a = c.self.inside.ahead.data.items in
    let b = c.self.inside.behind.data.items in
    let new = c.take_top.new.heap.data.items in
    subst (λ (ks : List ℕ). ks ≡ with_key c.args.key (keys_of a new)) c.self.view_is
    (more_second c.args.key (keys_in new) (keys_in b) (keys_in a)
    (IsPermutation-sym (keys_in b) _ (c.take_top.ensures.taken c.if-not-take_top.false)))

-- the least of those ahead
pub invariant_of-self-then-moves-2 : goal.invariant_of-self-then-moves-2
invariant_of-self-then-moves-2 c =
    left_moved c.self.inside.ahead.data.items c.self.inside.behind.data.items c.self.inside.head c.self.invariant
    c.args.key c.take_top-2.new.heap.data.items c.take_top-2.ensures.order
    c.first_in-self-inside-then-moves-2.result c.first_in-self-inside-then-moves-2.ensures
    (c.take_top-2.ensures.taken c.if-not-take_top-2.false) (c.take_top-2.ensures.least c.if-not-take_top-2.false)

pub invariant_of-self-else-moves-2 : goal.invariant_of-self-else-moves-2
invariant_of-self-else-moves-2 c =
    left_ahead c.self.inside.ahead.data.items c.self.inside.behind.data.items c.self.inside.head c.self.invariant
    c.args.key c.take_top-2.new.heap.data.items c.take_top-2.ensures.order
    (c.take_top-2.ensures.taken c.if-not-take_top-2.false)

pub returns-then-moves-2-clause-taken : goal.returns-then-moves-2-clause-taken
returns-then-moves-2-clause-taken c taken =
    let a = c.self.inside.ahead.data.items in
    let b = c.self.inside.behind.data.items in
    let new = c.take_top-2.new.heap.data.items in
    subst (λ (ks : List ℕ). ks ≡ with_key c.args.key (keys_of new b)) c.self.view_is
    (more_first c.args.key (keys_in new) (keys_in a) (keys_in b)
    (IsPermutation-sym (keys_in a) _ (c.take_top-2.ensures.taken c.if-not-take_top-2.false)))

pub returns-else-moves-2-clause-taken : goal.returns-else-moves-2-clause-taken
returns-else-moves-2-clause-taken c taken =
    let a = c.self.inside.ahead.data.items in
    let b = c.self.inside.behind.data.items in
    let new = c.take_top-2.new.heap.data.items in
    subst (λ (ks : List ℕ). ks ≡ with_key c.args.key (keys_of new b)) c.self.view_is
    (more_first c.args.key (keys_in new) (keys_in a) (keys_in b)
    (IsPermutation-sym (keys_in a) _ (c.take_top-2.ensures.taken c.if-not-take_top-2.false)))
