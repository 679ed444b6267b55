use Rattle.std.proofs.Common.{ℕ, List, Some, subst}
use Rattle.geo_elev.specs.Front.{IsNextKey}
use Rattle.geo_elev.proofs.Fronts.{top_alone, top_behind}
use Rattle.geo_elev.proofs.front.Front.least.Goals as goal

-- all that is behind is less than what is ahead
pub returns-in-Some : goal.returns-in-Some
returns-in-Some c =
    subst (λ (ks : List ℕ). IsNextKey ks 0 (Some c.in-Some.key)) c.self.view_is
    (top_behind c.self.inside.ahead.data.items c.self.inside.behind.data.items c.self.inside.head c.self.invariant
    c.in-Some.key c.in-Some.ensures)

pub returns-in-None : goal.returns-in-None
returns-in-None c =
    subst (λ (ks : List ℕ). IsNextKey ks 0 c.top-in-None.result) c.self.view_is
    (top_alone c.self.inside.ahead.data.items c.self.inside.behind.data.items c.self.inside.head c.self.invariant
    c.top-in-None.result c.in-None.ensures c.top-in-None.ensures)
