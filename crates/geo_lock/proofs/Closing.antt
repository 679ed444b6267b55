-- The passes are joined one by one, and then the state is taken out.
use Rattle.std.proofs.Common.{◌≡◌, ℕ, zero, suc, ◌+◌, ◌<◌, ◌≤◌, List, [], ◌∷◌, ◌++◌, map, length, false, Option, Some, sym, refl, ap, ◌∙◌, subst, arith, slice_get, lt_of_not-le, slice_index_or, take, drop}
use Rattle.std.proofs.lemmas.List.{append-nil, append_assoc}
use Rattle.std.proofs.lemmas.Option.{same_Some}
use mathlib.Core.Option.{some, none, some-injective}
use lib.ListN.{get_elem?}
use Rattle.atomic_table.specs.Seated.{TableId}
use Rattle.atomic_table.specs.Table.{Me, Seen, Final}
use Rattle.atomic_table.proofs.Lists.{at_longer}
use Rattle.geo_lock.specs.declared.view.View.{View}
use Rattle.geo_lock.specs.declared.claim.Claim.{Claim}
use Rattle.geo_lock.specs.View.{a_view, with_claims, together}
use Rattle.geo_lock.specs.Turns.{Ends, IsKept}
use Rattle.geo_lock.specs.Pass.{PassView, claim_of}
use Rattle.geo_lock.specs.Yard.{YardView, IsWhole, IsEnd}
use Rattle.geo_lock.proofs.Keeps.{taken}
use Rattle.geo_lock.proofs.Prefixes.{none_has}

lt_or : (a b : ℕ) → (b ≤ a → ⊥) → a < b
lt_or a b refuted = lt_of_not-le refuted

module _ {S B E : Type 0} where
  pub record Joining (yard : TableId) (m0 : Me S (View B E)) (all : List (PassView B E)) (m : Me S (View B E))
      (rest : List (PassView B E)) : Type 0 where
    pub me_is : m ≡ (with_claims m0.0 m.0.claims, [])
    pub adds : m.0.claims ++ map claim_of rest ≡ m0.0.claims ++ map claim_of all
    pub first : (c : Claim E) × (get_elem? m.0.claims 0 ≡ some c) × (c.number ≡ 0)
    pub yards : (k : ℕ) (p : PassView B E) → slice_get rest k ≡ Some p → p.yard ≡ yard

  pub joining_start : (yard : TableId) (m : Me S (View B E)) (all rest : List (PassView B E)) → rest ≡ all
      → m.1 ≡ [] → ((c : Claim E) × (get_elem? m.0.claims 0 ≡ some c) × (c.number ≡ 0))
      → ((k : ℕ) (p : PassView B E) → slice_get all k ≡ Some p → p.yard ≡ yard) → Joining yard m all m rest
  joining_start yard m all rest same empty first yards = record {
    me_is = λ i. (m.0, empty i);
    adds = ap (λ (z : List (PassView B E)). m.0.claims ++ map claim_of z) same;
    first = first;
    yards = λ k p e. yards k p (ap (λ (z : List (PassView B E)). slice_get z k) (sym same) ∙ e);
  }

  pub joining_step : (yard : TableId) (m0 : Me S (View B E)) (all : List (PassView B E)) (m : Me S (View B E))
      (p : PassView B E) (before rest : List (PassView B E)) → before ≡ p ∷ rest → Joining yard m0 all m before
      → (w : Me S (View B E)) → w ≡ (a_view p.start p.seen (claim_of p ∷ []) p.made false, [])
      → (m' : Me S (View B E)) → m' ≡ (together m.0 w.0, m.1) → Joining yard m0 all m' rest
  joining_step yard m0 all m p before rest is j w right m' now =
      let claims : m'.0.claims ≡ m.0.claims ++ claim_of p ∷ [] = ap (λ (z : Me S (View B E)). z.0.claims) now
      ∙ ap (λ (z : Me S (View B E)). m.0.claims ++ z.0.claims) right in record {
        me_is = now ∙ (λ i. (with_claims (j.me_is i).0 (m.0.claims ++ w.0.claims), (j.me_is i).1))
            ∙ ap (λ (z : List (Claim E)). (with_claims m0.0 z, []))
            (sym (ap (λ (z : Me S (View B E)). z.0.claims) now));
        adds = ap (λ (z : List (Claim E)). z ++ map claim_of rest) claims
            ∙ (append_assoc m.0.claims (claim_of p ∷ []) (map claim_of rest)
            ∙ (ap (λ (z : List (PassView B E)). m.0.claims ++ map claim_of z) (sym is) ∙ j.adds));
        first = (
          j.first.0,
          ap (λ (z : List (Claim E)). get_elem? z 0) claims
              ∙ at_longer m.0.claims (claim_of p ∷ []) 0 j.first.0 j.first.1,
          j.first.2,
        );
        yards = λ k q e. j.yards (suc k) q (ap (λ (z : List (PassView B E)). slice_get z (suc k)) is ∙ e);
      }

  pub joining_end : (yard : TableId) (m0 : Me S (View B E)) (all : List (PassView B E)) (m : Me S (View B E))
      (rest : List (PassView B E)) → length rest ≡ 0 → Joining yard m0 all m rest
      → m ≡ (with_claims m0.0 (m0.0.claims ++ map claim_of all), [])
  joining_end yard m0 all m [] none_left j =
      j.me_is ∙ ap (λ (z : List (Claim E)). (with_claims m0.0 z, [])) (sym (append-nil m.0.claims) ∙ j.adds)
  joining_end yard m0 all m (p ∷ rest) none_left j = absurd (omega arith)

module _ {A : Type 0} where
  -- what stands at a place, as an option and with a default
  pub get_at : (xs : List A) (k : ℕ) (d : A) → k < length xs → slice_get xs k ≡ Some (slice_index_or xs k d)
  get_at [] k d under = absurd (omega arith)
  get_at (x ∷ xs) zero d under = refl
  get_at (x ∷ xs) (suc k) d under = get_at xs k d (omega arith)

  pub index_at : (xs : List A) (k : ℕ) (d x : A) → slice_get xs k ≡ Some x → slice_index_or xs k d ≡ x
  index_at [] k d x e = absurd (cc e)
  index_at (y ∷ xs) zero d x e = same_Some y x e
  index_at (y ∷ xs) (suc k) d x e = index_at xs k d x e

module _ {B E : Type 0} where
  pub at_claim : (ps : List (PassView B E)) (k : ℕ) (p : PassView B E) → slice_get ps k ≡ Some p
      → get_elem? (map claim_of ps) k ≡ some (claim_of p)
  at_claim [] k p e = absurd (cc e)
  at_claim (q ∷ ps) zero p e = ap (λ (z : PassView B E). some (claim_of z)) (same_Some q p e)
  at_claim (q ∷ ps) (suc k) p e = at_claim ps k p e

  pub pass_at : (ps : List (PassView B E)) (n : ℕ) → n < length ps → (p : PassView B E) × (slice_get ps n ≡ Some p)
  pass_at [] n l = absurd (omega arith)
  pass_at (q ∷ ps) zero l = (q, refl)
  pass_at (q ∷ ps) (suc n) l = pass_at ps n (omega arith)

  -- the claims of all passes, in order of numbers
  pub all_claims : (y : YardView B) (ps : List (PassView B E)) → IsWhole y ps → (n : ℕ) → n < length ps
      → (i : ℕ) × (c : Claim E) × (get_elem? (map claim_of ps) i ≡ some c) × (c.number ≡ n)
  all_claims y ps w n l = let p = pass_at ps n l in (n, claim_of p.0, at_claim ps n p.0 p.1, (w.of_yard n p.0 p.1).1)

  pub ends_well : {L : Type 0} (start : L → B) (log : L → List E) (lawful : B → List E → Type 0) (seat_of : E
      → ℕ) (y : YardView B) (ps : List (PassView B E)) → IsWhole y ps
      → (v : View B E) (homes : List (mathlib.Core.Option.Option (Option L)))
      → v.claims ≡ map claim_of ps → v.made ≡ length ps
      → (e : Ends start log lawful seat_of y.start v homes) (x : L) → e.state ≡ x
      → IsEnd start log lawful seat_of y ps x
  ends_well start log lawful seat_of y ps whole v homes claims made e x is = let P : _ → Type 0 =
      λ z. IsEnd start log lawful seat_of y ps z in subst P is record {
        begun = e.begun;
        law = e.law;
        good = λ k d under. let p = slice_index_or ps k d in let c =
            e.claims k (claim_of p) (ap (λ (z : List (Claim E)). get_elem? z k) claims
            ∙ at_claim ps k p (get_at ps k d under)) in record { seen = c.1; own = c.0; own_seen = c.2 };
        numbers = λ k d under.
            let entry : E = slice_index_or (log e.state) k d in
            let n : ℕ = seat_of entry in
            let below : n < length ps =
            lt_or n (length ps)
            (λ above. none_has seat_of n (log e.state) k entry
            (e.unmade n (subst (λ (z : ℕ). z ≤ n) (sym made) above)) (get_at (log e.state) k d under) refl) in
            let p = pass_at ps n below in (n, p.0, below, index_at ps n p.0 p.0 p.1, (whole.of_yard n p.0 p.1).1);
      }

pub split_first : {A : Type 0} (all rest : List A) (first : A) → 0 < length all
    → first ≡ slice_index_or all 0 first → rest ≡ take 0 all ++ drop (0 + 1) all → all ≡ first ∷ rest
split_first [] rest first some_there is others = absurd (omega arith)
split_first (q ∷ qs) rest first some_there is others = λ i. sym is i ∷ sym others i

module _ {L B E : Type 0} (start : L → B) (log : L → List E) (lawful : B → List E → Type 0) (seat_of : E → ℕ) where
  -- all that `close` has to show
  pub close_all : (y : YardView B) (from : B) → from ≡ y.start
      → (all rest : List (PassView B E)) (first : PassView B E) → all ≡ first ∷ rest → IsWhole y all
      → (id : ℕ) (m0 me : Me (Option L) (View B E))
      → m0 ≡ (a_view first.start first.seen (claim_of first ∷ []) first.made false, [])
      → me ≡ (with_claims m0.0 (m0.0.claims ++ map claim_of rest), []) → (ws : List ℕ) (xs : List (Option L))
      → Final (Seen (IsKept start log lawful seat_of from) id me.0) ws xs → (left : Option L)
      → get_elem? xs 0 ≡ some left → (x : L) × (left ≡ Some x) × IsEnd start log lawful seat_of y all x
  close_all y from begun all rest first is w id m0 me m0_is me_is ws xs f left at =
      let v : View B E = me.0 in
      let now : me ≡ (a_view first.start first.seen (claim_of first ∷ map claim_of rest) first.made false, []) =
      me_is ∙ ap (λ (z : Me (Option L) (View B E)).
      (with_claims z.0 (z.0.claims ++ map claim_of rest), [])) m0_is in
      let claims : v.claims ≡ map claim_of all = ap (λ (z : Me (Option L) (View B E)). z.0.claims) now
      ∙ ap (λ (z : List (PassView B E)). map claim_of z) (sym is) in
      let here : slice_get all 0 ≡ Some first = ap (λ (z : List (PassView B E)). slice_get z 0) is in
      let made : v.made ≡ length all = ap (λ (z : Me (Option L) (View B E)). z.0.made) now ∙ w.count first here in
      let t = taken start log lawful seat_of from id v (ap (λ (z : Me (Option L) (View B E)). z.0.turn) now)
      (λ n l. let c = all_claims y all w n (subst (λ (z : ℕ). n < z) made l) in
      (c.0, c.1, ap (λ (z : List (Claim E)). get_elem? z c.0) claims ∙ c.2, c.3))
      (claim_of first) (ap (λ (z : Me (Option L) (View B E)). get_elem? z.0.claims 0) now)
      ((w.of_yard 0 first here).1) ws xs f in
      let e : Ends start log lawful seat_of from v t.0 = t.1 in
      let found : left ≡ Some e.state = some-injective left (Some e.state) (sym at ∙ t.2) in
      let P : B → Type 0 = λ b. (q : Ends start log lawful seat_of b v t.0) × (left ≡ Some q.state) in
      let there : P y.start = subst P begun (e, found) in (
        there.0.state,
        there.1,
        ends_well start log lawful seat_of y all w v t.0 claims made there.0 there.0.state refl,
      )

  pub close_result : (y : YardView B) (all : List (PassView B E)) (left : Option L)
      → ((x : L) × (left ≡ Some x) × IsEnd start log lawful seat_of y all x) → (x : L) → left ≡ Some x
      → IsEnd start log lawful seat_of y all x
  close_result y all left t x is = let P : L → Type 0 = λ z. IsEnd start log lawful seat_of y all z in
      subst P (same_Some t.0 x (sym t.1 ∙ is)) t.2
