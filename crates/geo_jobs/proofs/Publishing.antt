-- The publisher's steps keep the rule of a view.
use Rattle.std.proofs.Common.{◌≡◌, ◌≢◌, ℕ, ◌+◌, ◌*◌, ◌<◌, List, [], ◌∷◌, length, get_or, set, true, false, Some, sym, refl, ap, ◌∙◌, subst, arith, length-set}
use mathlib.Core.Option.{some, none}
use mathlib.Core.List.{IsPrefix}
use lib.ListN.{get_elem?}
use Rattle.atomic_table.specs.Table.{step, keeps, takes, gives, chain, Allows}
use Rattle.atomic_table.proofs.Lists.{set_here, set_else}
use Rattle.geo_lock.proofs.Prefixes.{prefix_self, prefix_trans}
use Rattle.geo_model.specs.declared.step.Entry.{Entry}
use Rattle.geo_jobs.specs.Passes.{MeshPass}
use Rattle.geo_jobs.specs.declared.role.Role.{Role}
use Rattle.geo_jobs.specs.declared.role.Role.TheVariants.{First, Shows, Comes, Looks, Note}
use Rattle.geo_jobs.specs.declared.known.Known.{Known}
use Rattle.geo_jobs.specs.declared.shown.Shown.{Shown}
use Rattle.geo_jobs.specs.Kept.{Slot, Seat, Layout, Plays, IsKept, Agrees, TakesSlotBack, ShowsIt}
use Rattle.geo_jobs.specs.Views.{showing, AreOnePass}
use Rattle.geo_jobs.proofs.Moves.{carried_list, differ, moves, names_middle, plays, reviews, views_stay}

module _ (from : MeshPass) where
  -- what others say stays true when the publisher takes its slot
  back_parts : (p : Layout) (j : ℕ) → j ≢ p.publisher → (seen : List Entry) (role : Role) → Plays p j seen role
      → Plays (record p { back_out = true }) j seen role
  back_parts p j ne seen First k = absurd (ne k.0)
  back_parts p j ne seen (Shows b out) k = absurd (ne k.0)
  back_parts p j ne seen (Comes f) k = k
  back_parts p j ne seen (Looks f marked) k = k
  back_parts p j ne seen Note k = k

  -- once the publisher has shown a list, and has the slot that waited
  abbrev shown_layout : Layout → List Entry → Layout
  shown_layout p latest = record p { latest = latest; middle = p.back; back = p.middle; fresh = true; back_out = true }

  -- what others say stays true when the publisher shows
  show_parts : (p : Layout) (latest : List Entry) (j : ℕ) → j ≢ p.publisher → (seen : List Entry) (role : Role)
      → Plays p j seen role → Plays (shown_layout p latest) j seen role
  show_parts p latest j ne seen First k = absurd (ne k.0)
  show_parts p latest j ne seen (Shows b out) k = absurd (ne k.0)
  show_parts p latest j ne seen (Comes f) k = (k.0, k.1, k.2, k.3, refl)
  show_parts p latest j ne seen (Looks f marked) k = (k.0, k.1, k.2, (λ _. refl), (λ h. differ h))
  show_parts p latest j ne seen Note k = k

  -- the publisher takes its slot
  pub takes_back : (slots id : ℕ) (v : Known) (b : ℕ) → v.role ≡ Shows b false
      → Allows (IsKept from) slots id (v, []) 0 (λ n. n) (TakesSlotBack (step slots 0 0 0 none) (v, []))
  takes_back slots id v b role s r _ at _ =
      let k = r.each_view id v at in
      let part = plays from r.layout id v (Shows b false) k role in
      let y = r.back_home (sym part.2) in
      let q : Layout = record r.layout { back_out = true } in (
        showing v b v.seen,
        takes b y.0,
        ap (λ (z : ℕ). get_elem? s.homes z) part.1 ∙ y.1,
        record {
          layout = q;
          low = r.low;
          apart = r.apart;
          word = ap (λ (ws : List ℕ). set ws 0 (get_or ws 0 0)) r.word;
          long = length-set s.homes b none ∙ r.long;
          shown = (
            r.shown.0,
            set_else s.homes b r.layout.middle none (λ e. r.apart.0 (sym (e ∙ part.1))) ∙ r.shown.1,
            r.shown.2,
          );
          back_home = λ h. differ h;
          front_home = λ h. let f = r.front_home h in
              (f.0, set_else s.homes b r.layout.front none (λ e. r.apart.2 (sym (e ∙ part.1))) ∙ f.1);
          each_view = views_stay from q s.views id (showing v b v.seen)
              record { of = k.of; seen = k.seen; told = k.told; part = (part.0, part.1, refl, part.3) }
              (λ j d ne e. moves from r.layout q (prefix_self r.layout.latest) j
              (back_parts r.layout j (λ h. ne (h ∙ sym part.0))) d (r.each_view j d e));
        },
        (λ c e. let other = plays from r.layout id v (Shows c false) k e in
            let same : b ≡ c = part.1 ∙ sym other.1 in (y.0, λ i. (showing v (same i) v.seen, (same i, y.0) ∷ []))),
      )

  -- the publisher finds that what it was told of begins what it shows
  pub agrees : (slots id : ℕ) (v : Known) (cs : List (ℕ × Slot)) (b : ℕ) → v.role ≡ Shows b true
      → Allows (IsKept from) slots id (v, cs) 0 (λ n. n) (Agrees (step slots 0 0 0 none) (v, cs))
  agrees slots id v cs b role s r _ at _ =
      let k = r.each_view id v at in
      let part = plays from r.layout id v (Shows b true) k role in (
        showing v b v.seen,
        keeps,
        tt,
        reviews from s r id (showing v b v.seen) record { of = k.of; seen = k.seen; told = k.told; part = part },
        (λ c e. let other = plays from r.layout id v (Shows c true) k e in
            let same : b ≡ c = part.1 ∙ sym other.1 in (
              (λ i. (showing v (same i) v.seen, cs)),
              λ i t h. subst (λ (z : List Entry). IsPrefix t z) (sym part.3) (k.told i t h),
            )),
      )

  -- the publisher shows what is in its slot
  pub shows : (slots id : ℕ) (v : Known) (b : ℕ) (x : Shown) (new : ℕ) → v.role ≡ Shows b true → (o : MeshPass)
      → v.of ≡ Some o → AreOnePass o x.at.value → IsPrefix v.seen x.at.value.seen → new ≡ 2 * b + 1
      → Allows (IsKept from) slots id (v, (b, Some x) ∷ []) 0 (λ _. new)
      (ShowsIt (step slots 0 new 0 none) (v, (b, Some x) ∷ []))
  shows slots id v b x new role o of its later new_is s r _ at _ =
      let k = r.each_view id v at in
      let part = plays from r.layout id v (Shows b true) k role in
      let now : List Entry = x.at.value.seen in
      let m : ℕ = r.layout.middle in
      let q : Layout = shown_layout r.layout now in
      let longer : IsPrefix r.layout.latest now = subst (λ (z : List Entry). IsPrefix z now) part.3 later in
      let filled = set s.homes b (some (Some x)) in
      let low : r.layout.back < 3 = r.low.1 in
      let is_back : b ≡ r.layout.back = part.1 in
      let three : length s.homes ≡ 3 = r.long in
      let named = names_middle from s r in (
        showing v m now,
        chain gives (takes m r.shown.0),
        (tt, set_else s.homes b m (some (Some x)) (λ e. r.apart.0 (sym (e ∙ part.1))) ∙ r.shown.1),
        record {
          layout = q;
          low = (r.low.1, r.low.0, r.low.2);
          apart = ((λ e. r.apart.0 (sym e)), (λ e. r.apart.2 (sym e)), (λ e. r.apart.1 (sym e)));
          word = ap (λ (ws : List ℕ). set ws 0 new) r.word ∙ ap (λ (z : ℕ). z ∷ []) (omega arith);
          long = length-set filled m none ∙ (length-set s.homes b (some (Some x)) ∙ r.long);
          shown = (
            Some x,
            set_else filled m r.layout.back none r.apart.0
                ∙ (ap (λ (z : ℕ). get_elem? filled z) (sym part.1) ∙ set_here s.homes b (some (Some x)) (omega arith)),
            λ _. (x, refl, refl, subst (λ (z : MeshPass). AreOnePass z x.at.value) (k.of o of) its),
          );
          back_home = λ h. differ h;
          front_home = λ h. let f = r.front_home h in (
            f.0,
            set_else filled m r.layout.front none r.apart.1
                ∙ (set_else s.homes b r.layout.front (some (Some x)) (λ e. r.apart.2 (sym (e ∙ part.1))) ∙ f.1),
          );
          each_view = views_stay from q s.views id (showing v m now)
              record {
                of = k.of;
                seen = prefix_self now;
                told = λ i t e. prefix_trans t r.layout.latest now (k.told i t e) longer;
                part = (part.0, refl, refl, refl);
              }
              (λ j d ne e. moves from r.layout q longer j (show_parts r.layout now j (λ h. ne (h ∙ sym part.0))) d
              (r.each_view j d e));
        },
        (λ c y _ carried. let same : x ≡ y = ap (carried_list x) carried in (
          r.shown.0,
          subst (λ (z : ℕ). z < 3) (sym named) r.low.0,
          λ i. (showing v (sym named i) (same i).at.value.seen, (sym named i, r.shown.0) ∷ []),
        )),
      )

  -- the same for a seat whose slots are told by an equation
  pub takes_back_as : (slots id : ℕ) (me : Seat) (b : ℕ) → me.1 ≡ [] → me.0.role ≡ Shows b false
      → Allows (IsKept from) slots id me 0 (λ n. n) (TakesSlotBack (step slots 0 0 0 none) me)
  takes_back_as slots id me b empty role = let P : List (ℕ × Slot) → Type 0 =
      λ z. Allows (IsKept from) slots id (me.0, z) 0 (λ n. n) (TakesSlotBack (step slots 0 0 0 none) (me.0, z)) in
      subst P (sym empty) (takes_back slots id me.0 b role)

  pub shows_as : (slots id : ℕ) (me : Seat) (b : ℕ) (x : Shown) (new : ℕ) → me.1 ≡ (b, Some x) ∷ []
      → me.0.role ≡ Shows b true → (o : MeshPass) → me.0.of ≡ Some o → AreOnePass o x.at.value
      → IsPrefix me.0.seen x.at.value.seen → new ≡ 2 * b + 1
      → Allows (IsKept from) slots id me 0 (λ _. new) (ShowsIt (step slots 0 new 0 none) me)
  shows_as slots id me b x new carried role o of its later new_is = let P : List (ℕ × Slot) → Type 0 =
      λ z. Allows (IsKept from) slots id (me.0, z) 0 (λ _. new) (ShowsIt (step slots 0 new 0 none) (me.0, z)) in
      subst P (sym carried) (shows slots id me.0 b x new role o of its later new_is)
