use Rattle.std.proofs.Common.{◌≡◌, ℕ, List, subst, sym, ◌∙◌}
use Rattle.geo_elev.specs.Front.{is_none_of}
use Rattle.geo_elev.proofs.Fronts.{none_of_both, some_of_first}
use Rattle.geo_elev.proofs.front.Front.is_empty.Goals as goal

-- none is ahead, so what is behind is all
pub returns-then-has_none : goal.returns-then-has_none
returns-then-has_none c =
    subst (λ (ks : List ℕ). c.has_none-then-has_none.result ≡ is_none_of ks) c.self.view_is
    (c.has_none-then-has_none.ensures
    ∙ sym (none_of_both c.self.inside.ahead.data.items c.self.inside.behind.data.items
    (sym c.has_none.ensures ∙ c.if-has_none.true)))

pub returns-else-has_none : goal.returns-else-has_none
returns-else-has_none c =
    subst (λ (ks : List ℕ). c.has_none.result ≡ is_none_of ks) c.self.view_is
    (c.if-has_none.false
    ∙ sym (some_of_first c.self.inside.ahead.data.items c.self.inside.behind.data.items
    (sym c.has_none.ensures ∙ c.if-has_none.false)))
