-- What finds numbers by their keys, after a change of one number.
use Rattle.std.specs.Prelude.{◌≡◌, ℕ, ◌==◌, Bool, true, false, Option, Some, None, if◌then◌else◌}
use Rattle.std.proofs.Common.{refl, sym, ◌∙◌, ap, inl, inr}
use Rattle.std.proofs.lemmas.Bool.{cases_eq, eq-eqb, ne_eqb, eqb-true, and_parts}
use Rattle.geo_model.specs.Words.{names_number, same_name}
use Rattle.geo_names.proofs.Rows.{same_is, is_same}
use Rattle.geo_handles.specs.declared.key.Key.{Key}
use Rattle.geo_handles.specs.Handles.{is_at}
use Rattle.geo_handles.specs.Keys.{same_key, is_key, IsFinder}

-- a test of keys that holds just of a key and itself
pub record IsTest {K : Type 0} (test : Option K → K → Bool) : Type 0 where
  pub none : (k : K) → test None k ≡ false
  pub is : (j k : K) → test (Some j) k ≡ true → j ≡ k
  pub self : (k : K) → test (Some k) k ≡ true

-- consumers are numbers
pub consumers-test : IsTest names_number
consumers-test = record { none = λ k. refl; is = λ j k e. eqb-true j k e; self = λ k. eq-eqb k k refl }

-- the same key is one of the same actor and the same name
same_key_is : (j k : Key) → same_key j k ≡ true → j ≡ k
same_key_is j k e =
    let parts = and_parts (j.actor == k.actor) (same_name j.name k.name) e in
    λ i. record { actor = eqb-true j.actor k.actor parts.0 i; name = same_is j.name k.name parts.1 i }

-- keys are actors with names
pub keys-test : IsTest is_key
keys-test =
    record { none = λ k. refl; is = same_key_is; self = λ k. rw (eq-eqb k.actor k.actor refl) (is_same k.name) }

module _ {K : Type 0} (test : Option K → K → Bool) (is : IsTest test) (f : ℕ → Option K) (at : K → Option ℕ)
    (finder : IsFinder f at) where
  -- a number passes the test of a key just where it is found by the key
  pub finds : (k : K) (n : ℕ) → test (f n) k ≡ is_at (at k) n
  finds k n = by (f n) refl (at k) refl
    where
      tested : (j : K) → f n ≡ Some j → (o : Option ℕ) → at k ≡ o → (b : Bool) → test (Some j) k ≡ b
          → test (Some j) k ≡ is_at o n
      tested j e o d true t =
          let same : j ≡ k = is.is j k t in
          let here : o ≡ Some n = sym d ∙ finder.back k n (e ∙ ap (λ x. Some x) same) in
          t ∙ sym (rw here (eq-eqb n n refl))
      tested j e None d false t = t
      tested j e (Some m) d false t =
          t ∙ sym (ne_eqb n m (λ same.
          let both : Some j ≡ Some k = sym e ∙ ap f same ∙ finder.found k m d in
          let key : j ≡ k = cc in
          let never : false ≡ true = sym t ∙ ap (λ x. test (Some x) k) key ∙ is.self k in cc))

      by : (x : Option K) → f n ≡ x → (o : Option ℕ) → at k ≡ o → test x k ≡ is_at o n
      by None e None d = is.none k
      by None e (Some m) d =
          is.none k ∙ sym (ne_eqb n m (λ same. let never : None ≡ Some k = sym e ∙ ap f same
          ∙ finder.found k m d in cc))
      by (Some j) e o d = tested j e o d (test (Some j) k) refl

  -- the same numbers are found by the same keys
  pub finder-same : (f′ : ℕ → Option K) (at′ : K → Option ℕ) → ((m : ℕ) → f′ m ≡ f m) → ((q : K) → at′ q ≡ at q)
      → IsFinder f′ at′
  finder-same f′ at′ keys numbers = record {
    found = λ q m has. keys m ∙ finder.found q m (sym (numbers q) ∙ has);
    back = λ q m has. numbers q ∙ finder.back q m (sym (keys m) ∙ has);
  }

  module _ (n : ℕ) (f′ : ℕ → Option K) (at′ : K → Option ℕ) (others : (m : ℕ) → (m ≡ n → ⊥) → f′ m ≡ f m) where
    -- a number gets a key that none had
    pub finder-add : (k : K) → at k ≡ None → f n ≡ None → f′ n ≡ Some k
        → ((q : K) → at′ q ≡ (if test (Some k) q then Some n else at q)) → IsFinder f′ at′
    finder-add k free fresh has update =
        record { found = λ q m e. found_at q m (test (Some k) q) refl e; back = back_at } where
          found_at : (q : K) (m : ℕ) (b : Bool) → test (Some k) q ≡ b → at′ q ≡ Some m → f′ m ≡ Some q
          found_at q m true t e =
              let here : Some n ≡ Some m = (let u = update q in rw (u, t) at e) in
              let number : m ≡ n = cc in
              ap f′ number ∙ has ∙ ap (λ x. Some x) (is.is k q t)
          found_at q m false t e =
              let was : at q ≡ Some m = (let u = update q in rw (u, t) at e) in
              let key : f m ≡ Some q = finder.found q m was in
              others m (λ same. let never : None ≡ Some q = sym fresh ∙ ap f (sym same) ∙ key in cc) ∙ key

          back_at : (q : K) (m : ℕ) → f′ m ≡ Some q → at′ q ≡ Some m
          back_at q m e =
              elim (cases_eq m n) [
                | inl same ↦
                    let both : Some k ≡ Some q = sym has ∙ ap f′ (sym same) ∙ e in
                    let key : k ≡ q = cc in
                    update q ∙ rw (sym (ap (λ x. test (Some k) x) key) ∙ is.self k) (ap (λ x. Some x) (sym same))
                | inr other ↦ later q m (finder.back q m (sym (others m other) ∙ e)) (test (Some k) q) refl
              ]
            where
              later : (q : K) (m : ℕ) → at q ≡ Some m → (b : Bool) → test (Some k) q ≡ b → at′ q ≡ Some m
              later q m was true t = let never : None ≡ Some m = sym free ∙ ap at (is.is k q t) ∙ was in absurd cc
              later q m was false t = update q ∙ rw t was

    -- a number loses the key that it may have
    pub finder-drop : (o : Option K) → f n ≡ o → f′ n ≡ None → ((q : K) → at′ q ≡ (if test o q then None else at q))
        → IsFinder f′ at′
    finder-drop o had gone update = record { found = λ q m e. found_at q m (test o q) refl e; back = back_at } where
      found_at : (q : K) (m : ℕ) (b : Bool) → test o q ≡ b → at′ q ≡ Some m → f′ m ≡ Some q
      found_at q m true t e = let never : None ≡ Some m = (let u = update q in rw (u, t) at e) in absurd cc
      found_at q m false t e =
          let was : at q ≡ Some m = (let u = update q in rw (u, t) at e) in
          let key : f m ≡ Some q = finder.found q m was in
          others m (λ same.
          let here : o ≡ Some q = sym had ∙ ap f (sym same) ∙ key in
          let never : false ≡ true = sym t ∙ ap (λ x. test x q) here ∙ is.self q in cc) ∙ key

      back_at : (q : K) (m : ℕ) → f′ m ≡ Some q → at′ q ≡ Some m
      back_at q m e =
          elim (cases_eq m n) [
            | inl same ↦ let never : None ≡ Some q = sym gone ∙ ap f′ (sym same) ∙ e in absurd cc
            | inr other ↦ later q m other (finder.back q m (sym (others m other) ∙ e)) o refl (test o q) refl
          ]
        where
          later : (q : K) (m : ℕ) → (m ≡ n → ⊥) → at q ≡ Some m → (x : Option K) → o ≡ x → (b : Bool) → test o q ≡ b
              → at′ q ≡ Some m
          later q m other was x d false t = update q ∙ rw t was
          later q m other was None d true t =
              let never : false ≡ true = sym (is.none q) ∙ ap (λ y. test y q) (sym d) ∙ t in absurd cc
          later q m other was (Some j) d true t =
              let key : j ≡ q = is.is j q (ap (λ y. test y q) (sym d) ∙ t) in
              let here : at q ≡ Some n = finder.back q n (had ∙ d ∙ ap (λ x. Some x) key) in
              let both : Some m ≡ Some n = sym was ∙ here in
              absurd (other (let same : m ≡ n = cc in same))
