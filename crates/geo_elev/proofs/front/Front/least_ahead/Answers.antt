use Rattle.std.proofs.Common.{◌≡◌, ℕ, ◌*◌, ◌^◌, List, Option, None, rules, subst, sym}
use Rattle.geo_elev.specs.Front.{IsNextKey, keys_in, keys_of, least_with}
use Rattle.geo_elev.proofs.Fronts.{next_of_both, top_ahead}
use Rattle.geo_elev.proofs.front.Front.least_ahead.Goals as goal

-- the keys are parted by this head
pub returns-then-head-self : goal.returns-then-head-self
returns-then-head-self c =
    let a = c.self.inside.ahead.data.items in
    let b = c.self.inside.behind.data.items in
    subst (λ (ks : List ℕ). IsNextKey ks (c.args.head * 2 ^ 64) c.top.result) c.self.view_is
    (subst (λ (n : ℕ). IsNextKey (keys_of a b) (n * 2 ^ 64) c.top.result) (sym c.if-head-self.true)
    (top_ahead a b c.self.inside.head c.self.invariant c.top.result c.top.ensures))

-- all are looked at
pub returns : goal.returns
returns c =
    let low = c.args.head * 2 ^ 64 in
    let a = c.self.inside.ahead.data.items in
    let b = c.self.inside.behind.data.items in
    let least : Option ℕ = least_with low (keys_in b) (least_with low (keys_in a) None) in
    let found : c.least_in-2.result ≡ least = search rules in
    subst (λ (o : Option ℕ). IsNextKey c.args.self.now low o) (sym found)
    (subst (λ (ks : List ℕ). IsNextKey ks low least) c.self.view_is (next_of_both low a b))
