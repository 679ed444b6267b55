-- Ids with their names, and numbers under the ids of their names.
use Rattle.std.specs.Prelude.{◌≡◌, ℕ, ◌+◌, ◌⊎◌, ◌==◌, ◌&&◌, nat_le, Bool, true, false, not, List, [], ◌∷◌, ◌++◌, Option, Some, None, filter, option_map, if◌then◌else◌}
use Rattle.std.specs.List.{AllByRecursion, last_or}
use Rattle.std.specs.Option.{is_some}
use Rattle.std.proofs.Common.{refl, sym, ◌∙◌, ap, subst, inl, inr, arith}
use Rattle.std.proofs.lemmas.Bool.{cases_eq, eq-eqb, ne_eqb}
use Rattle.std.proofs.lemmas.List.{map-append}
use Rattle.geo_slots.specs.Slots.{IsRising, value_at, without, with_insert}
use Rattle.geo_slots.proofs.RowLemmas.{value_at_next, value_at-behind, value_at-last, value_at-other, value_at-without, value_at-gone}
use Rattle.geo_family.specs.Family.{names, has_child, first_child, last_child}
use Rattle.geo_model.proofs.Options.{some_of, is_some-map}
use Rattle.geo_model.specs.Words.{same_name}
use Rattle.geo_names.specs.declared.names.Inside.{Inside}
use Rattle.geo_names.specs.Names.{first_named, last_named}
use Rattle.geo_names.specs.Inside.{id_of, text_or, text_of_number, rows_of, rows_inside, IsUnder, IsInside}
use Rattle.geo_names.proofs.Rows.{same_is, is_same, numbers-without}

module _ (n : Inside) (is : IsInside n) (name : List ℕ) where
  -- the name of a number's id, if it is this one, is this name
  test_at : (id : ℕ) → id_of n name ≡ Some id → (o : Option ℕ) → IsUnder n.texts.rows (0, o)
      → names o id ≡ same_name (text_of_number n.texts.rows o) name
  test_at id has None never = absurd never
  test_at id has (Some j) there =
      let m = some_of (value_at n.texts.rows j) there in
      rw m.1 (elim (cases_eq j id) [
        | inl same ↦
            let here : Some m.0 ≡ Some name = sym m.1 ∙ ap (value_at n.texts.rows) same ∙ is.named name id has in
            let text : m.0 ≡ name = cc in
            eq-eqb j id same ∙ sym (ap (λ t. same_name t name) text ∙ is_same name)
        | inr other ↦ ne_eqb j id other ∙ sym (differs m.0 m.1 other (same_name m.0 name) refl)
      ])
    where
      differs : (m : List ℕ) → value_at n.texts.rows j ≡ Some m → (j ≡ id → ⊥) → (b : Bool) → same_name m name ≡ b
          → same_name m name ≡ false
      differs m at other false e = e
      differs m at other true e =
          let back : id_of n name ≡ Some j = is.back name j (at ∙ ap (λ t. Some t) (same_is m name e)) in
          let both : Some j ≡ Some id = sym back ∙ has in
          absurd (other (let same : j ≡ id = cc in same))

  -- no number's name is one that has no id
  test_none : id_of n name ≡ None → (o : Option ℕ) → IsUnder n.texts.rows (0, o)
      → same_name (text_of_number n.texts.rows o) name ≡ false
  test_none none None never = absurd never
  test_none none (Some j) there =
      let m = some_of (value_at n.texts.rows j) there in
      rw m.1 (differs m.0 m.1 (same_name m.0 name) refl)
    where
      differs : (m : List ℕ) → value_at n.texts.rows j ≡ Some m → (b : Bool) → same_name m name ≡ b
          → same_name m name ≡ false
      differs m at false e = e
      differs m at true e =
          let back : Some j ≡ None = sym (is.back name j (at ∙ ap (λ t. Some t) (same_is m name e))) ∙ none in absurd cc

  module _ (id from_number : ℕ) (has : id_of n name ≡ Some id) where
    -- one number more in front: it is the first, or a later one is
    first_step : (row : ℕ × Option ℕ) (rows : List (ℕ × Option ℕ)) (b : Bool)
        → (nat_le from_number row.0 && names row.1 id) ≡ b
        → names row.1 id ≡ same_name (text_of_number n.texts.rows row.1) name
        → first_child rows id from_number ≡ first_named (rows_of n.texts.rows rows) name from_number
        → first_child (row ∷ rows) id from_number ≡ first_named (rows_of n.texts.rows (row ∷ rows)) name from_number
    first_step row rows true e same rest =
        let f : (nat_le from_number row.0 && same_name (text_of_number n.texts.rows row.1) name) ≡ true =
        sym (ap (λ b. nat_le from_number row.0 && b) same) ∙ e in
        rw (e, f) refl
    first_step row rows false e same rest =
        let f : (nat_le from_number row.0 && same_name (text_of_number n.texts.rows row.1) name) ≡ false =
        sym (ap (λ b. nat_le from_number row.0 && b) same) ∙ e in
        rw (e, f) rest

    -- the first child of a name's id is the first number of the name
    first_is : (rows : List (ℕ × Option ℕ)) → AllByRecursion (IsUnder n.texts.rows) rows
        → first_child rows id from_number ≡ first_named (rows_of n.texts.rows rows) name from_number
    first_is [] under = refl
    first_is (row ∷ rows) under =
        first_step row rows (nat_le from_number row.0 && names row.1 id) refl (test_at id has row.1 under.0)
        (first_is rows under.1)

    -- so for all numbers
    pub first-found : first_child n.alike.children id from_number ≡ first_named (rows_inside n) name from_number
    first-found = first_is n.alike.children is.under

  -- one number more in front, of another name
  none_step : (from_number : ℕ) (row : ℕ × Option ℕ) (rows : List (ℕ × Option ℕ)) (a : Bool)
      → nat_le from_number row.0 ≡ a
      → same_name (text_of_number n.texts.rows row.1) name ≡ false
      → first_named (rows_of n.texts.rows rows) name from_number ≡ None
      → first_named (rows_of n.texts.rows (row ∷ rows)) name from_number ≡ None
  none_step from_number row rows true e other rest = rw (e, other) rest
  none_step from_number row rows false e other rest = rw e rest

  -- a name without an id has no number
  first_none : id_of n name ≡ None → (from_number : ℕ) (rows : List (ℕ × Option ℕ))
      → AllByRecursion (IsUnder n.texts.rows) rows
      → first_named (rows_of n.texts.rows rows) name from_number ≡ None
  first_none none from_number [] under = refl
  first_none none from_number (row ∷ rows) under =
      none_step from_number row rows (nat_le from_number row.0) refl (test_none none row.1 under.0)
      (first_none none from_number rows under.1)

  -- so none from any number on
  pub first-missing : id_of n name ≡ None → (from_number : ℕ) → first_named (rows_inside n) name from_number ≡ None
  first-missing none from_number = first_none none from_number n.alike.children is.under

  -- the last child of a name's id is the last number of the name
  last_is : (id : ℕ) → id_of n name ≡ Some id → (rows : List (ℕ × Option ℕ))
      → AllByRecursion (IsUnder n.texts.rows) rows
      → (o : Option (ℕ × Option ℕ)) (p : Option (ℕ × List ℕ))
      → option_map (λ (r : ℕ × Option ℕ). r.0) o ≡ option_map (λ (r : ℕ × List ℕ). r.0) p
      → option_map (λ (r : ℕ × Option ℕ). r.0) (last_or o (filter (λ r. names r.1 id) rows))
      ≡ option_map (λ (r : ℕ × List ℕ). r.0) (last_or p (filter (λ r. same_name r.1 name) (rows_of n.texts.rows rows)))
  last_is id has [] under o p so = so
  last_is id has (row ∷ rows) under o p so =
      step (names row.1 id) refl (test_at id has row.1 under.0)
      (last_is id has rows under.1 (Some row) (Some (row.0, text_of_number n.texts.rows row.1)) refl)
      (last_is id has rows under.1 o p so)
    where
      step : (b : Bool) → names row.1 id ≡ b → names row.1 id ≡ same_name (text_of_number n.texts.rows row.1) name
          → option_map (λ (r : ℕ × Option ℕ). r.0) (last_or (Some row) (filter (λ r. names r.1 id) rows))
          ≡ option_map (λ (r : ℕ × List ℕ). r.0)
          (last_or (Some (row.0, text_of_number n.texts.rows row.1))
          (filter (λ r. same_name r.1 name) (rows_of n.texts.rows rows)))
          → option_map (λ (r : ℕ × Option ℕ). r.0) (last_or o (filter (λ r. names r.1 id) rows))
          ≡ option_map (λ (r : ℕ × List ℕ). r.0)
          (last_or p (filter (λ r. same_name r.1 name) (rows_of n.texts.rows rows)))
          → option_map (λ (r : ℕ × Option ℕ). r.0) (last_or o (filter (λ r. names r.1 id) (row ∷ rows)))
          ≡ option_map (λ (r : ℕ × List ℕ). r.0)
          (last_or p (filter (λ r. same_name r.1 name) (rows_of n.texts.rows (row ∷ rows))))
      step true e same here later =
          let f : same_name (text_of_number n.texts.rows row.1) name ≡ true = sym same ∙ e in rw (e, f) here
      step false e same here later =
          let f : same_name (text_of_number n.texts.rows row.1) name ≡ false = sym same ∙ e in rw (e, f) later

  -- so for all numbers
  pub last-found : (id : ℕ) → id_of n name ≡ Some id → last_child n.alike.children id ≡ last_named (rows_inside n) name
  last-found id has = last_is id has n.alike.children is.under None None refl

  -- a name without an id has no last number
  last_none : id_of n name ≡ None → (rows : List (ℕ × Option ℕ)) → AllByRecursion (IsUnder n.texts.rows) rows
      → filter (λ (r : ℕ × List ℕ). same_name r.1 name) (rows_of n.texts.rows rows) ≡ []
  last_none none [] under = refl
  last_none none (row ∷ rows) under =
      let other : same_name (text_of_number n.texts.rows row.1) name ≡ false = test_none none row.1 under.0 in
      rw other (last_none none rows under.1)

  -- so none of all
  pub last-missing : id_of n name ≡ None → last_named (rows_inside n) name ≡ None
  last-missing none = rw (last_none none n.alike.children is.under) refl

-- A number more, and a number less

-- one number less
pub under-without : (texts : List (ℕ × List ℕ)) (k : ℕ) (rows : List (ℕ × Option ℕ))
    → AllByRecursion (IsUnder texts) rows → AllByRecursion (IsUnder texts) (without rows k)
under-without texts k [] under = tt
under-without texts k (row ∷ rows) under = at (row.0 == k) refl (under-without texts k rows under.1) where
  at : (b : Bool) → (row.0 == k) ≡ b → AllByRecursion (IsUnder texts) (without rows k)
      → AllByRecursion (IsUnder texts) (without (row ∷ rows) k)
  at true e rest = rw e rest
  at false e rest = rw e (under.0, rest)

-- the names of the numbers but one
pub rows-without : (texts : List (ℕ × List ℕ)) (k : ℕ) (rows : List (ℕ × Option ℕ))
    → rows_of texts (without rows k) ≡ without (rows_of texts rows) k
rows-without texts k [] = refl
rows-without texts k (row ∷ rows) = at (row.0 == k) refl (rows-without texts k rows) where
  at : (b : Bool) → (row.0 == k) ≡ b → rows_of texts (without rows k) ≡ without (rows_of texts rows) k
      → rows_of texts (without (row ∷ rows) k) ≡ without (rows_of texts (row ∷ rows)) k
  at true e rest = rw e rest
  at false e rest = rw e (ap (λ rs. (row.0, text_of_number texts row.1) ∷ rs) rest)

-- Names that stay where the ids change

-- where each number's id keeps its name, all stays
pub record Keeps (texts others : List (ℕ × List ℕ)) (row : ℕ × Option ℕ) : Type 0 where
  pub under : IsUnder others row
  pub text : text_of_number others row.1 ≡ text_of_number texts row.1

-- so for all numbers
pub kept-under : (texts others : List (ℕ × List ℕ)) (rows : List (ℕ × Option ℕ))
    → AllByRecursion (Keeps texts others) rows → AllByRecursion (IsUnder others) rows
kept-under texts others [] keeps = tt
kept-under texts others (row ∷ rows) keeps = (keeps.0.under, kept-under texts others rows keeps.1)

-- the rows are the same
pub kept-rows : (texts others : List (ℕ × List ℕ)) (rows : List (ℕ × Option ℕ))
    → AllByRecursion (Keeps texts others) rows → rows_of others rows ≡ rows_of texts rows
kept-rows texts others [] keeps = refl
kept-rows texts others (row ∷ rows) keeps = rw (keeps.0.text, kept-rows texts others rows keeps.1) refl

-- with one more id
pub keeps-push : (texts : List (ℕ × List ℕ)) (id : ℕ) (name : List ℕ) (rows : List (ℕ × Option ℕ))
    → AllByRecursion (IsUnder texts) rows
    → AllByRecursion (Keeps texts (texts ++ (id, name) ∷ [])) rows
keeps-push texts id name [] under = tt
keeps-push texts id name (row ∷ rows) under = (at row.1 under.0, keeps-push texts id name rows under.1) where
  at : (o : Option ℕ) → IsUnder texts (row.0, o) → Keeps texts (texts ++ (id, name) ∷ []) (row.0, o)
  at None never = absurd never
  at (Some j) there =
      let same = value_at-behind id j name texts there in
      record { under = rw same there; text = ap text_or same }

-- without an id under which no number stands
pub keeps-without : (texts : List (ℕ × List ℕ)) (id : ℕ) (rows : List (ℕ × Option ℕ))
    → AllByRecursion (IsUnder texts) rows → has_child rows id ≡ false
    → AllByRecursion (Keeps texts (without texts id)) rows
keeps-without texts id [] under none = tt
keeps-without texts id (row ∷ rows) under none =
    step (names row.1 id) refl none (λ other. keeps-without texts id rows under.1 other) where
      at : (o : Option ℕ) → names o id ≡ false → IsUnder texts (row.0, o) → Keeps texts (without texts id) (row.0, o)
      at None other never = absurd never
      at (Some j) other there =
          let same = value_at-without id j texts (λ e. let never : true ≡ false = sym (eq-eqb j id e) ∙ other in cc) in
          record { under = rw same there; text = ap text_or same }

      step : (b : Bool) → names row.1 id ≡ b → has_child (row ∷ rows) id ≡ false
          → (has_child rows id ≡ false → AllByRecursion (Keeps texts (without texts id)) rows)
          → AllByRecursion (Keeps texts (without texts id)) (row ∷ rows)
      step true e none rest = let never : true ≡ false = rw e at none in absurd cc
      step false e none rest = (at row.1 e under.0, rest (rw e at none))

-- a parent without a last child has no child
last_is_some : {X : Type 0} (x : X) (xs : List X) → is_some (last_or (Some x) xs) ≡ true
last_is_some x [] = refl
last_is_some x (y ∷ ys) = last_is_some y ys

-- so it has none at all
pub no_last : (children : List (ℕ × Option ℕ)) (p : ℕ) → is_some (last_child children p) ≡ false
    → has_child children p ≡ false
no_last [] p none = refl
no_last (row ∷ rows) p none = step (names row.1 p) refl none (λ h. no_last rows p h)
  where
    step : (b : Bool) → names row.1 p ≡ b → is_some (last_child (row ∷ rows) p) ≡ false
        → (is_some (last_child rows p) ≡ false → has_child rows p ≡ false) → has_child (row ∷ rows) p ≡ false
    step true e none so =
        let here = rw e at none in
        let never : true ≡ false =
        sym (last_is_some row (filter (λ row. names row.1 p) rows))
        ∙ sym (is_some-map (λ (r : ℕ × Option ℕ). r.0) (last_or (Some row) (filter (λ row. names row.1 p) rows)))
        ∙ here in
        absurd (cc)
    step false e none so = rw e (so (rw e at none))

module _ (n m : Inside) (is : IsInside n) (name : List ℕ) where
  -- a name gets the next id
  pub inside-opened : id_of n name ≡ None → IsRising 1 n.texts.rows n.texts.next → m.texts ≡ with_insert n.texts name
      → m.alike.parents ≡ n.alike.parents ++ n.alike.next_parent ∷ []
      → m.alike.next_parent ≡ n.alike.next_parent + 1 → m.alike.children ≡ n.alike.children
      → ((q : List ℕ) → id_of m q ≡ (if same_name name q then Some n.texts.next else id_of n q)) → IsInside m
  inside-opened none rising texts parents next children update = record {
    parents =
        parents ∙ rw (is.parents, is.next, texts)
        (sym (map-append (λ (row : ℕ × List ℕ). row.0) n.texts.rows ((n.texts.next, name) ∷ [])));
    next = next ∙ rw (is.next, texts) refl;
    named = λ q j has. rw texts (named_at q j (same_name name q) refl has);
    back = λ q j at. back_at q j (cases_eq n.texts.next j) (rw texts at at);
    under =
        rw (texts, children)
        (kept-under n.texts.rows (n.texts.rows ++ (n.texts.next, name) ∷ []) n.alike.children
        (keeps-push n.texts.rows n.texts.next name n.alike.children is.under));
  }
    where
      fresh : value_at n.texts.rows n.texts.next ≡ None
      fresh = value_at_next n.texts.next 1 n.texts.rows n.texts.next rising (omega arith)

      named_at : (q : List ℕ) (j : ℕ) (b : Bool) → same_name name q ≡ b → id_of m q ≡ Some j
          → value_at (n.texts.rows ++ (n.texts.next, name) ∷ []) j ≡ Some q
      named_at q j true e has =
          let here : Some n.texts.next ≡ Some j = (let u = update q in rw (u, e) at has) in
          let id : n.texts.next ≡ j = cc in
          subst (λ k. value_at (n.texts.rows ++ (n.texts.next, name) ∷ []) k ≡ Some q) id
          (value_at-last n.texts.next name n.texts.rows fresh ∙ ap (λ t. Some t) (same_is name q e))
      named_at q j false e has =
          let was : id_of n q ≡ Some j = (let u = update q in rw (u, e) at has) in
          let at : value_at n.texts.rows j ≡ Some q = is.named q j was in
          value_at-behind n.texts.next j name n.texts.rows (rw at refl) ∙ at

      back_at : (q : List ℕ) (j : ℕ) → (n.texts.next ≡ j) ⊎ (n.texts.next ≡ j → ⊥)
          → value_at (n.texts.rows ++ (n.texts.next, name) ∷ []) j ≡ Some q → id_of m q ≡ Some j
      back_at q j (inl same) at =
          let text : Some name ≡ Some q = sym (value_at-last n.texts.next name n.texts.rows fresh)
          ∙ ap (value_at (n.texts.rows ++ (n.texts.next, name) ∷ [])) same ∙ at in
          let is_q : name ≡ q = cc in
          update q ∙ rw (ap (same_name name) (sym is_q) ∙ is_same name) (ap (λ k. Some k) same)
      back_at q j (inr other) at =
          let was : id_of n q ≡ Some j =
          is.back q j (sym (value_at-other n.texts.next j name n.texts.rows other) ∙ at) in
          update q ∙ (rw (differs q j was (same_name name q) refl) was)
        where
          differs : (q : List ℕ) (j : ℕ) → id_of n q ≡ Some j → (b : Bool) → same_name name q ≡ b
              → same_name name q ≡ false
          differs q j was false e = e
          differs q j was true e = let never : None ≡ Some j = sym none ∙ ap (id_of n) (same_is name q e)
              ∙ was in absurd cc

  -- and the rows stay
  pub rows-opened : m.texts ≡ with_insert n.texts name → m.alike.children ≡ n.alike.children
      → rows_inside m ≡ rows_inside n
  rows-opened texts children =
      rw (texts, children)
      (kept-rows n.texts.rows (n.texts.rows ++ (n.texts.next, name) ∷ []) n.alike.children
      (keeps-push n.texts.rows n.texts.next name n.alike.children is.under))

  module _ (id : ℕ) (had : id_of n name ≡ Some id) (alone : has_child n.alike.children id ≡ false) (texts : m.texts
      ≡ record n.texts { rows = without n.texts.rows id })
      (children : m.alike.children ≡ n.alike.children) where
    -- a name loses its id
    pub inside-closed : m.alike.parents ≡ filter (λ k. not (k == id)) n.alike.parents
        → m.alike.next_parent ≡ n.alike.next_parent
        → ((q : List ℕ) → id_of m q ≡ (if same_name name q then None else id_of n q)) → IsInside m
    inside-closed parents next update = record {
      parents = parents ∙ rw (is.parents, texts) (numbers-without id n.texts.rows);
      next = next ∙ rw (is.next, texts) refl;
      named = λ q j has. rw texts (named_at q j (same_name name q) refl has);
      back = λ q j at. back_at q j (cases_eq j id) (rw texts at at);
      under = rw (texts, children)
          (kept-under n.texts.rows (without n.texts.rows id) n.alike.children
          (keeps-without n.texts.rows id n.alike.children is.under alone));
    }
      where
        named_at : (q : List ℕ) (j : ℕ) (b : Bool) → same_name name q ≡ b → id_of m q ≡ Some j
            → value_at (without n.texts.rows id) j ≡ Some q
        named_at q j true e has = let never : None ≡ Some j = (let u = update q in rw (u, e) at has) in absurd cc
        named_at q j false e has =
            let was : id_of n q ≡ Some j = (let u = update q in rw (u, e) at has) in
            let at : value_at n.texts.rows j ≡ Some q = is.named q j was in
            value_at-without id j n.texts.rows (λ same.
            let both : Some q ≡ Some name = sym at ∙ ap (value_at n.texts.rows) same ∙ is.named name id had in
            let text : q ≡ name = cc in
            let never : true ≡ false = sym (is_same name) ∙ ap (same_name name) (sym text) ∙ e in cc) ∙ at

        back_at : (q : List ℕ) (j : ℕ) → (j ≡ id) ⊎ (j ≡ id → ⊥) → value_at (without n.texts.rows id) j ≡ Some q
            → id_of m q ≡ Some j
        back_at q j (inl same) at =
            let never : None ≡ Some q = sym (value_at-gone id n.texts.rows)
            ∙ ap (value_at (without n.texts.rows id)) (sym same) ∙ at in absurd cc
        back_at q j (inr other) at =
            let was : id_of n q ≡ Some j = is.back q j (sym (value_at-without id j n.texts.rows other) ∙ at) in
            update q ∙ (rw (differs q j other was (same_name name q) refl) was)
          where
            differs : (q : List ℕ) (j : ℕ) → (j ≡ id → ⊥) → id_of n q ≡ Some j → (b : Bool) → same_name name q ≡ b
                → same_name name q ≡ false
            differs q j other was false e = e
            differs q j other was true e =
                let both : Some j ≡ Some id = sym was ∙ ap (id_of n) (sym (same_is name q e)) ∙ had in
                absurd (other (let same : j ≡ id = cc in same))

    -- and the rows stay
    pub rows-closed : rows_inside m ≡ rows_inside n
    rows-closed =
        rw (texts, children)
        (kept-rows n.texts.rows (without n.texts.rows id) n.alike.children
        (keeps-without n.texts.rows id n.alike.children is.under alone))
