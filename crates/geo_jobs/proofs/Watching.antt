-- The watcher's steps keep the rule of a view.
use Rattle.std.proofs.Common.{◌≡◌, ◌≢◌, ℕ, ◌+◌, ◌*◌, ◌<◌, List, [], ◌∷◌, length, get_or, set, Bool, true, false, Some, sym, refl, ap, ◌∙◌, subst, arith, length-set}
use mathlib.Core.Option.{some, none}
use mathlib.Core.List.{IsPrefix}
use lib.ListN.{get_elem?}
use Rattle.atomic_table.specs.Table.{step, keeps, takes, gives, chain, stepped, Allows, Act, Valid, carried_after}
use Rattle.atomic_table.proofs.Lists.{set_here, set_else}
use Rattle.geo_lock.proofs.Prefixes.{prefix_self}
use Rattle.geo_model.specs.declared.step.Entry.{Entry}
use Rattle.geo_jobs.specs.Passes.{MeshPass}
use Rattle.geo_jobs.specs.declared.role.Role.{Role}
use Rattle.geo_jobs.specs.declared.role.Role.TheVariants.{First, Shows, Comes, Looks, Note}
use Rattle.geo_jobs.specs.declared.known.Known.{Known}
use Rattle.geo_jobs.specs.declared.shown.Shown.{Shown}
use Rattle.geo_jobs.specs.Kept.{Slot, ViewState, Seat, Layout, bit, Plays, Knows, IsKept, Peeps, IsNews, HasFetched, Fetches}
use Rattle.geo_jobs.specs.Views.{looking, expecting, AreOnePass}
use Rattle.geo_jobs.proofs.Moves.{differ, moves, names_middle, none_begins, plays, reviews, views_stay}

module _ (from : MeshPass) where
  -- once the watcher has taken the slot that waited
  abbrev fetched_layout : Layout → Layout
  fetched_layout p = record p { middle = p.front; front = p.middle; fresh = false; front_out = true }

  -- what others say stays true when the watcher fetches
  fetch_parts : (p : Layout) (j : ℕ) → j ≢ p.watcher → p.has_watcher ≡ true → (seen : List Entry) (role : Role)
      → Plays p j seen role → Plays (fetched_layout p) j seen role
  fetch_parts p j ne has_watcher seen First k = differ (sym has_watcher ∙ k.1)
  fetch_parts p j ne has_watcher seen (Shows b out) k = k
  fetch_parts p j ne has_watcher seen (Comes f) k = absurd (ne k.1)
  fetch_parts p j ne has_watcher seen (Looks f marked) k = absurd (ne k.1)
  fetch_parts p j ne has_watcher seen Note k = k

  -- the watcher looks whether a newer list waits
  peeps_at : (b : Bool) (slots id : ℕ) (v : Known) (cs : List (ℕ × Slot)) (f : ℕ) → v.role ≡ Looks f false
      → (s : ViewState) (r : IsKept from s) → get_elem? s.views id ≡ some v → r.layout.fresh ≡ b
      → (w : Known) × (a : Act Slot) × Valid s.homes cs a
      × IsKept from (stepped s 0 (get_or s.words 0 0) id cs w a)
      × Peeps (step slots 0 0 0 none) (v, cs) (get_or s.words 0 0) (w, carried_after cs a)
  peeps_at true slots id v cs f role s r at is =
      let k = r.each_view id v at in
      let part = plays from r.layout id v (Looks f false) k role in
      let found : get_or s.words 0 0 ≡ 2 * r.layout.middle + 1 =
      ap (λ (ws : List ℕ). get_or ws 0 0) r.word ∙ ap (λ (z : Bool). 2 * r.layout.middle + bit z) is in (
        expecting v f,
        keeps,
        tt,
        reviews from s r id (expecting v f)
            record { of = k.of; seen = k.seen; told = k.told; part = (part.0, part.1, part.2, (λ _. is), part.4) },
        (λ c e. let other = plays from r.layout id v (Looks c false) k e in
            let same : f ≡ c = part.2 ∙ sym other.2 in
            ((λ _. (λ i. (expecting v (same i), cs))), (λ even. absurd (even (omega arith))))),
      )
  peeps_at false slots id v cs f role s r at is =
      let k = r.each_view id v at in
      let part = plays from r.layout id v (Looks f false) k role in
      let whole : v.seen ≡ r.layout.latest = part.4 is in
      let found : get_or s.words 0 0 ≡ 2 * r.layout.middle + 0 =
      ap (λ (ws : List ℕ). get_or ws 0 0) r.word ∙ ap (λ (z : Bool). 2 * r.layout.middle + bit z) is in (
        looking v f v.seen,
        keeps,
        tt,
        reviews from s r id (looking v f v.seen)
            record { of = k.of; seen = k.seen; told = none_begins r.layout.latest; part = part },
        (λ c e. let other = plays from r.layout id v (Looks c false) k e in
            let same : f ≡ c = part.2 ∙ sym other.2 in (
              (λ odd. absurd (omega arith)),
              (λ _. (
                (λ i. (looking v (same i) v.seen, cs)),
                λ i t h. subst (λ (z : List Entry). IsPrefix t z) (sym whole) (k.told i t h),
              )),
            )),
      )

  pub peeps : (slots id : ℕ) (v : Known) (cs : List (ℕ × Slot)) (f : ℕ) → v.role ≡ Looks f false
      → Allows (IsKept from) slots id (v, cs) 0 (λ n. n) (Peeps (step slots 0 0 0 none) (v, cs))
  peeps slots id v cs f role s r _ at _ = peeps_at r.layout.fresh slots id v cs f role s r at refl

  -- the list that waits is news to the watcher
  is_news : (s : ViewState) (r : IsKept from s) (id : ℕ) (v : Known) → get_elem? s.views id ≡ some v → (y : Shown)
      → y.at.value.seen ≡ r.layout.latest → AreOnePass from y.at.value → IsNews v y
  is_news s r id v at y whole its = let k : Knows from r.layout id v = r.each_view id v at in record {
    seen = subst (λ (z : List Entry). IsPrefix v.seen z) (sym whole) k.seen;
    told = λ i t e. subst (λ (z : List Entry). IsPrefix t z) (sym whole) (k.told i t e);
    of = λ o e. subst (λ (z : MeshPass). AreOnePass z y.at.value) (sym (k.of o e)) its;
  }

  -- the watcher has the list that waits
  has_fetched : (s : ViewState) (r : IsKept from s) (id : ℕ) (v : Known) (cs : List (ℕ × Slot))
      → get_elem? s.views id ≡ some v → (y : Shown) → r.shown.0 ≡ Some y → y.at.value.seen ≡ r.layout.latest
      → AreOnePass from y.at.value
      → HasFetched (v, cs) (get_or s.words 0 0)
      (looking v r.layout.middle y.at.value.seen, (r.layout.middle, r.shown.0) ∷ [])
  has_fetched s r id v cs at y is whole its = let named = names_middle from s r in (
    y,
    is_news s r id v at y whole its,
    subst (λ (z : ℕ). z < 3) (sym named) r.low.0,
    λ i. (looking v (sym named i) y.at.value.seen, (sym named i, is i) ∷ []),
  )

  -- the views once the watcher has fetched
  fetched_views : (s : ViewState) (r : IsKept from s) (id : ℕ) (v : Known) → get_elem? s.views id ≡ some v
      → id ≡ r.layout.watcher → r.layout.has_watcher ≡ true → (y : Shown) → y.at.value.seen ≡ r.layout.latest
      → (j : ℕ) (d : Known) → get_elem? (set s.views id (looking v r.layout.middle y.at.value.seen)) j ≡ some d
      → Knows from (fetched_layout r.layout) j d
  fetched_views s r id v at mine has_watcher y whole =
      let k = r.each_view id v at in
      let q : Layout = fetched_layout r.layout in
      views_stay from q s.views id (looking v r.layout.middle y.at.value.seen)
      record {
        of = k.of;
        seen = subst (λ (z : List Entry). IsPrefix y.at.value.seen z) whole (prefix_self y.at.value.seen);
        told = none_begins r.layout.latest;
        part = (has_watcher, mine, refl, (λ h. differ (sym h)), (λ _. whole));
      }
      (λ j d ne e. moves from r.layout q (prefix_self r.layout.latest) j
      (fetch_parts r.layout j (λ h. ne (h ∙ sym mine)) has_watcher) d (r.each_view j d e))

  -- the watcher that has come fetches its first list
  pub comes : (slots id : ℕ) (v : Known) (f new : ℕ) → v.role ≡ Comes f → new ≡ 2 * f
      → Allows (IsKept from) slots id (v, []) 0 (λ _. new) (Fetches (step slots 0 new 0 none) (v, []))
  comes slots id v f new role new_is s r _ at _ =
      let k = r.each_view id v at in
      let part = plays from r.layout id v (Comes f) k role in
      let m : ℕ = r.layout.middle in
      let news = r.shown.2 part.4 in
      let y : Shown = news.0 in
      let is_front : f ≡ r.layout.front = part.2 in
      let front = r.front_home part.3 in
      let got = has_fetched s r id v [] at y news.1 news.2 news.3 in (
        looking v m y.at.value.seen,
        takes m r.shown.0,
        r.shown.1,
        record {
          layout = fetched_layout r.layout;
          low = (r.low.2, r.low.1, r.low.0);
          apart = (r.apart.2, (λ e. r.apart.1 (sym e)), r.apart.0);
          word = ap (λ (ws : List ℕ). set ws 0 new) r.word ∙ ap (λ (z : ℕ). z ∷ []) (omega arith);
          long = length-set s.homes m none ∙ r.long;
          shown = (front.0, set_else s.homes m r.layout.front none r.apart.1 ∙ front.1, (λ h. differ (sym h)));
          back_home = λ h. let g = r.back_home h in (g.0, set_else s.homes m r.layout.back none r.apart.0 ∙ g.1);
          front_home = λ h. differ h;
          each_view = fetched_views s r id v at part.1 part.0 y news.2;
        },
        (λ c. ((λ _ _. got), (λ _ _. got))),
      )

  -- the watcher that knows of a newer list fetches it
  pub fetches : (slots id : ℕ) (v : Known) (f : ℕ) (x : Slot) (new : ℕ) → v.role ≡ Looks f true → new ≡ 2 * f
      → Allows (IsKept from) slots id (v, (f, x) ∷ []) 0 (λ _. new) (Fetches (step slots 0 new 0 none) (v, (f, x) ∷ []))
  fetches slots id v f x new role new_is s r _ at _ =
      let k = r.each_view id v at in
      let part = plays from r.layout id v (Looks f true) k role in
      let m : ℕ = r.layout.middle in
      let news = r.shown.2 (part.3 refl) in
      let y : Shown = news.0 in
      let filled = set s.homes f (some x) in
      let is_front : f ≡ r.layout.front = part.2 in
      let low : r.layout.front < 3 = r.low.2 in
      let three : length s.homes ≡ 3 = r.long in
      let got = has_fetched s r id v ((f, x) ∷ []) at y news.1 news.2 news.3 in (
        looking v m y.at.value.seen,
        chain gives (takes m r.shown.0),
        (tt, set_else s.homes f m (some x) (λ e. r.apart.1 (sym (e ∙ part.2))) ∙ r.shown.1),
        record {
          layout = fetched_layout r.layout;
          low = (r.low.2, r.low.1, r.low.0);
          apart = (r.apart.2, (λ e. r.apart.1 (sym e)), r.apart.0);
          word = ap (λ (ws : List ℕ). set ws 0 new) r.word ∙ ap (λ (z : ℕ). z ∷ []) (omega arith);
          long = length-set filled m none ∙ (length-set s.homes f (some x) ∙ r.long);
          shown = (
            x,
            set_else filled m r.layout.front none r.apart.1
                ∙ (ap (λ (z : ℕ). get_elem? filled z) (sym part.2) ∙ set_here s.homes f (some x) (omega arith)),
            (λ h. differ (sym h)),
          );
          back_home = λ h. let g = r.back_home h in (
            g.0,
            set_else filled m r.layout.back none r.apart.0
                ∙ (set_else s.homes f r.layout.back (some x) (λ e. r.apart.2 (e ∙ part.2)) ∙ g.1),
          );
          front_home = λ h. differ h;
          each_view = fetched_views s r id v at part.1 part.0 y news.2;
        },
        (λ c. ((λ _ _. got), (λ _ _. got))),
      )

  -- the same for a seat whose slots are told by an equation
  pub comes_as : (slots id : ℕ) (me : Seat) (f new : ℕ) → me.1 ≡ [] → me.0.role ≡ Comes f → new ≡ 2 * f
      → Allows (IsKept from) slots id me 0 (λ _. new) (Fetches (step slots 0 new 0 none) me)
  comes_as slots id me f new empty role new_is = let P : List (ℕ × Slot) → Type 0 =
      λ z. Allows (IsKept from) slots id (me.0, z) 0 (λ _. new) (Fetches (step slots 0 new 0 none) (me.0, z)) in
      subst P (sym empty) (comes slots id me.0 f new role new_is)

  pub fetches_as : (slots id : ℕ) (me : Seat) (f : ℕ) (x : Slot) (new : ℕ) → me.1 ≡ (f, x) ∷ []
      → me.0.role ≡ Looks f true → new ≡ 2 * f
      → Allows (IsKept from) slots id me 0 (λ _. new) (Fetches (step slots 0 new 0 none) me)
  fetches_as slots id me f x new carried role new_is = let P : List (ℕ × Slot) → Type 0 =
      λ z. Allows (IsKept from) slots id (me.0, z) 0 (λ _. new) (Fetches (step slots 0 new 0 none) (me.0, z)) in
      subst P (sym carried) (fetches slots id me.0 f x new role new_is)
