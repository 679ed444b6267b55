use Rattle.std.proofs.Common.{◌≡◌, ℕ, List, arith, subst}
use Rattle.std.proofs.lemmas.Result.{on_ok_weaker}
use Rattle.geo_elev.specs.Front.{keys_in, keys_of, with_key}
use Rattle.geo_elev.proofs.Fronts.{add_ahead, add_behind, more_first, more_second}
use Rattle.geo_elev.proofs.front.Front.add.Goals as goal

-- its place is behind the head
pub invariant_of-self : goal.invariant_of-self
invariant_of-self c =
    add_behind c.self.inside.ahead.data.items c.self.inside.behind.data.items c.self.inside.head c.self.invariant
    c.args.key c.add_to.new.heap.data.items c.add_to.result c.add_to.ensures.more c.add_to.ensures.same
    c.add_to.ensures.order
    (let less = c.if-first_in-self.true in let is = c.first_in.ensures in omega (arith, less, is))

pub returns-then-first_in-self : goal.returns-then-first_in-self
returns-then-first_in-self c =
    let a = c.self.inside.ahead.data.items in
    let b = c.self.inside.behind.data.items in
    let new = c.add_to.new.heap.data.items in
    on_ok_weaker c.add_to.result (λ is. subst (λ (ks : List ℕ). keys_of a new ≡ with_key c.args.key ks) c.self.view_is
    (more_second c.args.key (keys_in b) (keys_in new) (keys_in a) is)) c.add_to.ensures.more

-- it isn't
pub invariant_of-self-else-first_in-self : goal.invariant_of-self-else-first_in-self
invariant_of-self-else-first_in-self c =
    add_ahead c.self.inside.ahead.data.items c.self.inside.behind.data.items c.self.inside.head c.self.invariant
    c.args.key c.add_to-else-first_in-self.new.heap.data.items c.add_to-else-first_in-self.result
    c.add_to-else-first_in-self.ensures.more c.add_to-else-first_in-self.ensures.same
    c.add_to-else-first_in-self.ensures.order
    (let less = c.if-first_in-self.false in let is = c.first_in.ensures in omega (arith, less, is))

pub returns-else-first_in-self : goal.returns-else-first_in-self
returns-else-first_in-self c =
    let a = c.self.inside.ahead.data.items in
    let b = c.self.inside.behind.data.items in
    let new = c.add_to-else-first_in-self.new.heap.data.items in
    on_ok_weaker c.add_to-else-first_in-self.result
    (λ is. subst (λ (ks : List ℕ). keys_of new b ≡ with_key c.args.key ks) c.self.view_is
    (more_first c.args.key (keys_in a) (keys_in new) (keys_in b) is)) c.add_to-else-first_in-self.ensures.more
