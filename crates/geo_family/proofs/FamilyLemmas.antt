-- The order of a family after each of its changes.
use Rattle.std.proofs.Common.{◌≡◌, ℕ, ◌<◌, ◌==◌, List, [], ◌∷◌, ◌++◌, Bool, true, false, Some, None, Option, IsSome, ◌⊎◌, sym, refl, ap, ◌∙◌, subst, inl, inr, arith, rules}
use Rattle.std.proofs.lemmas.Bool.{cases_lt}
use Rattle.geo_slots.specs.Slots.{value_at, without}
use Rattle.geo_family.specs.declared.family.Link.{Link}
use Rattle.geo_family.specs.declared.family.Ends.{Ends}
use Rattle.geo_family.specs.Nearest.{IsNearest, NextIsNearest, IsFirst, Up, Down, put, put_at, put_unless}
use Rattle.geo_family.specs.Links.{part_at, parent_of, before_of, after_of, first_in_ends, last_in_ends, IsFamily, with_after, with_before, with_first, with_last_child, with_child_link, child_after}
use Rattle.geo_family.proofs.LinkLemmas.{part-kept, part-set, IsSome-change}
use Rattle.geo_family.proofs.NearestLemmas.{put-other}
use Rattle.geo_family.proofs.OrderLemmas.{link_next, link_first, unlink_next, unlink_first}

-- the two orders

-- upwards, no number stands before itself
up_irreflexive : (a : ℕ) → Up a a → ⊥
up_irreflexive a h = omega arith

-- upwards, what stands before another stands before all that is behind that one
up_transitive : (a b c : ℕ) → Up a b → Up b c → Up a c
up_transitive a b c h k = omega arith

-- upwards, of two different numbers one stands before the other
up_total : (a b : ℕ) → (a ≡ b → ⊥) → Up a b ⊎ Up b a
up_total a b other = elim (cases_lt a b) [ inl below ↦ inl below | inr above ↦ inr (omega (arith, other, above)) ]

-- downwards, no number stands before itself
down_irreflexive : (a : ℕ) → Down a a → ⊥
down_irreflexive a h = omega arith

-- downwards, what stands before another stands before all that is behind that one
down_transitive : (a b c : ℕ) → Down a b → Down b c → Down a c
down_transitive a b c h k = omega arith

-- downwards, of two different numbers one stands before the other
down_total : (a b : ℕ) → (a ≡ b → ⊥) → Down a b ⊎ Down b a
down_total a b other = elim (cases_lt a b) [ inl below ↦ inr below | inr above ↦ inl (omega (arith, other, above)) ]

module _ {T : Type 0} (part : T → Option ℕ) where
  -- who has a part is there
  pub part_there : (rows : List (ℕ × T)) (c p : ℕ) → part_at part rows c ≡ Some p → IsSome (value_at rows c)
  part_there rows c p has = search rules

  -- a value without the part at the end changes no part
  pub part-push : (rows : List (ℕ × T)) (n : ℕ) (v : T) → part v ≡ None
      → part_at part (rows ++ (n, v) ∷ []) ≡ part_at part rows
  part-push rows n v none = λ i. λ c. same rows c i
    where
      last_one : (c : ℕ) (b : Bool) → (n == c) ≡ b → part_at part ((n, v) ∷ []) c ≡ None
      last_one c true e = rw e none
      last_one c false e = rw e refl

      same : (rows : List (ℕ × T)) (c : ℕ) → part_at part (rows ++ (n, v) ∷ []) c ≡ part_at part rows c
      same [] c = last_one c (n == c) refl
      same (row ∷ rows) c = search (rules, same rows c)

  -- without a number, its part is none
  pub part-without : (n : ℕ) (rows : List (ℕ × T)) → part_at part (without rows n) ≡ put (part_at part rows) n None
  part-without n rows = λ i. λ c. all c i
    where
      gone : (rows : List (ℕ × T)) → part_at part (without rows n) n ≡ None
      gone [] = refl
      gone (row ∷ rows) = search (rules, gone rows)

      stays : (c : ℕ) → (c ≡ n → ⊥) → (rows : List (ℕ × T)) → part_at part (without rows n) c ≡ part_at part rows c
      stays c apart [] = refl
      stays c apart (row ∷ rows) = search (rules, stays c apart rows)

      all : (c : ℕ) → part_at part (without rows n) c ≡ put (part_at part rows) n None c
      all c = search (rules, gone rows, stays c)

-- Parts after another neighbour

-- another number after a child leaves all parents
with_after-parent : (o to : Option ℕ) (links : List (ℕ × Link))
    → part_at parent_of (with_after o to links) ≡ part_at parent_of links
with_after-parent None to links = refl
with_after-parent (Some c) to links = part-kept c parent_of (λ l. record l { after = to }) (λ l. refl) links

-- another number after a child leaves what is before each child
with_after-before : (o to : Option ℕ) (links : List (ℕ × Link))
    → part_at before_of (with_after o to links) ≡ part_at before_of links
with_after-before None to links = refl
with_after-before (Some c) to links = part-kept c before_of (λ l. record l { after = to }) (λ l. refl) links

-- another number after a child changes what is after that child alone
with_after-after : (o to : Option ℕ) (links : List (ℕ × Link)) → ((c : ℕ) → o ≡ Some c → IsSome (value_at links c))
    → part_at after_of (with_after o to links) ≡ put_at (part_at after_of links) o to
with_after-after None to links there = refl
with_after-after (Some c) to links there =
    part-set c after_of (λ l. record l { after = to }) to (λ l. refl) links (there c refl)

-- with another number after a child, who was there still is
with_after-there : (o to : Option ℕ) (links : List (ℕ × Link)) (c : ℕ) → IsSome (value_at links c)
    → IsSome (value_at (with_after o to links) c)
with_after-there None to links c there = there
with_after-there (Some b) to links c there = IsSome-change b (λ l. record l { after = to }) c links there

-- another number before a child leaves all parents
with_before-parent : (o to : Option ℕ) (links : List (ℕ × Link))
    → part_at parent_of (with_before o to links) ≡ part_at parent_of links
with_before-parent None to links = refl
with_before-parent (Some c) to links = part-kept c parent_of (λ l. record l { before = to }) (λ l. refl) links

-- another number before a child leaves what is after each child
with_before-after : (o to : Option ℕ) (links : List (ℕ × Link))
    → part_at after_of (with_before o to links) ≡ part_at after_of links
with_before-after None to links = refl
with_before-after (Some c) to links = part-kept c after_of (λ l. record l { before = to }) (λ l. refl) links

-- another number before a child changes what is before that child alone
with_before-before : (o to : Option ℕ) (links : List (ℕ × Link))
    → ((c : ℕ) → o ≡ Some c → IsSome (value_at links c))
    → part_at before_of (with_before o to links) ≡ put_at (part_at before_of links) o to
with_before-before None to links there = refl
with_before-before (Some c) to links there =
    part-set c before_of (λ l. record l { before = to }) to (λ l. refl) links (there c refl)

-- with another number before a child, who was there still is
with_before-there : (o to : Option ℕ) (links : List (ℕ × Link)) (c : ℕ) → IsSome (value_at links c)
    → IsSome (value_at (with_before o to links) c)
with_before-there None to links c there = there
with_before-there (Some b) to links c there = IsSome-change b (λ l. record l { before = to }) c links there

-- where no child stands before, the parent has another first child, and the other parents keep theirs
with_first-first : (o : Option ℕ) (p : ℕ) (to : Option ℕ) (ends : List (ℕ × Ends)) → IsSome (value_at ends p)
    → part_at first_in_ends (with_first o p to ends) ≡ put_unless (part_at first_in_ends ends) o p to
with_first-first None p to ends there = part-set p first_in_ends (λ e. record e { first = to }) to
    (λ e. refl) ends there
with_first-first (Some c) p to ends there = refl

-- another first child leaves the last child of each parent
with_first-last : (o : Option ℕ) (p : ℕ) (to : Option ℕ) (ends : List (ℕ × Ends))
    → part_at last_in_ends (with_first o p to ends) ≡ part_at last_in_ends ends
with_first-last None p to ends = part-kept p last_in_ends (λ e. record e { first = to }) (λ e. refl) ends
with_first-last (Some c) p to ends = refl

-- with another first child, each parent that was there still is
with_first-there : (o : Option ℕ) (p : ℕ) (to : Option ℕ) (ends : List (ℕ × Ends)) (q : ℕ)
    → IsSome (value_at ends q) → IsSome (value_at (with_first o p to ends) q)
with_first-there None p to ends q there = IsSome-change p (λ e. record e { first = to }) q ends there
with_first-there (Some c) p to ends q there = there

-- where no child stands behind, the parent has another last child, and the other parents keep theirs
with_last-last : (o : Option ℕ) (p : ℕ) (to : Option ℕ) (ends : List (ℕ × Ends)) → IsSome (value_at ends p)
    → part_at last_in_ends (with_last_child o p to ends) ≡ put_unless (part_at last_in_ends ends) o p to
with_last-last None p to ends there = part-set p last_in_ends (λ e. record e { last = to }) to (λ e. refl) ends there
with_last-last (Some c) p to ends there = refl

-- another last child leaves the first child of each parent
with_last-first : (o : Option ℕ) (p : ℕ) (to : Option ℕ) (ends : List (ℕ × Ends))
    → part_at first_in_ends (with_last_child o p to ends) ≡ part_at first_in_ends ends
with_last-first None p to ends = part-kept p first_in_ends (λ e. record e { last = to }) (λ e. refl) ends
with_last-first (Some c) p to ends = refl

-- All the changes at once: another number after the child before, another one before the child behind, another link
-- of the child, and other ends of the parent
module _ (links : List (ℕ × Link)) (ends : List (ℕ × Ends)) (child parent : ℕ) (prev behind : Option ℕ)
    (to_after to_before : Option ℕ) (link : Link) where
  -- the links of the children with all the changes
  abbrev pub relinked : List (ℕ × Link)
  relinked = with_child_link child link (with_before behind to_before (with_after prev to_after links))

  -- the ends of the parents with all the changes
  abbrev pub rehung : List (ℕ × Ends)
  rehung = with_last_child behind parent to_before (with_first prev parent to_after ends)

  -- the neighbours are there
  pub record AreThere : Type 0 where
    pub the_child : IsSome (value_at links child)
    pub the_parent : IsSome (value_at ends parent)
    pub the_prev : (c : ℕ) → prev ≡ Some c → IsSome (value_at links c)
    pub the_behind : (c : ℕ) → behind ≡ Some c → IsSome (value_at links c)

  -- the child is there after the changes at its neighbours
  still_there : AreThere → IsSome (value_at (with_before behind to_before (with_after prev to_after links)) child)
  still_there there =
      with_before-there behind to_before (with_after prev to_after links) child
      (with_after-there prev to_after links child there.the_child)

  -- all keep their parents but the child, which has that of its new link
  pub relinked-parent : AreThere → part_at parent_of relinked ≡ put (part_at parent_of links) child link.parent
  relinked-parent there =
      part-set child parent_of (λ _. link) link.parent (λ l. refl)
      (with_before behind to_before (with_after prev to_after links)) (still_there there)
      ∙ ap (λ f. put f child link.parent) (with_before-parent behind to_before (with_after prev to_after links)
      ∙ with_after-parent prev to_after links)

  -- what is after each: it changes for the child before, and for the child itself
  pub relinked-after : AreThere
      → part_at after_of relinked ≡ put (put_at (part_at after_of links) prev to_after) child link.after
  relinked-after there =
      part-set child after_of (λ _. link) link.after (λ l. refl)
      (with_before behind to_before (with_after prev to_after links)) (still_there there)
      ∙ ap (λ f. put f child link.after) (with_before-after behind to_before (with_after prev to_after links)
      ∙ with_after-after prev to_after links there.the_prev)

  -- what is before each: it changes for the child behind, and for the child itself
  pub relinked-before : AreThere
      → part_at before_of relinked ≡ put (put_at (part_at before_of links) behind to_before) child link.before
  relinked-before there =
      part-set child before_of (λ _. link) link.before (λ l. refl)
      (with_before behind to_before (with_after prev to_after links)) (still_there there)
      ∙ ap (λ f. put f child link.before)
      (with_before-before behind to_before (with_after prev to_after links)
      (λ c is. with_after-there prev to_after links c (there.the_behind c is))
      ∙ ap (λ f. put_at f behind to_before) (with_after-before prev to_after links))

  -- the first children: that of the parent changes where no child stands before
  pub rehung-first : AreThere → part_at first_in_ends rehung
      ≡ put_unless (part_at first_in_ends ends) prev parent to_after
  rehung-first there = with_last-first behind parent to_before (with_first prev parent to_after ends)
      ∙ with_first-first prev parent to_after ends there.the_parent

  -- the last children: that of the parent changes where no child stands behind
  pub rehung-last : AreThere → part_at last_in_ends rehung
      ≡ put_unless (part_at last_in_ends ends) behind parent to_before
  rehung-last there =
      with_last-last behind parent to_before (with_first prev parent to_after ends)
      (with_first-there prev parent to_after ends parent there.the_parent)
      ∙ ap (λ f. put_unless f behind parent to_before) (with_first-last prev parent to_after ends)

-- where the parts are these functions, the order is that of the functions
family_of : (links : List (ℕ × Link)) (ends : List (ℕ × Ends)) (f a b x z : ℕ → Option ℕ)
    → part_at parent_of links ≡ f → part_at after_of links ≡ a → part_at before_of links ≡ b
    → part_at first_in_ends ends ≡ x → part_at last_in_ends ends ≡ z
    → NextIsNearest Up f a → NextIsNearest Down f b → IsFirst Up f x → IsFirst Down f z → IsFamily links ends
family_of links ends f a b x z is_f is_a is_b is_x is_z afters befores firsts lasts = record {
  afters = subst (λ g. NextIsNearest Up g (part_at after_of links)) (sym is_f)
      (subst (λ g. NextIsNearest Up f g) (sym is_a) afters);
  befores = subst (λ g. NextIsNearest Down g (part_at before_of links)) (sym is_f)
      (subst (λ g. NextIsNearest Down f g) (sym is_b) befores);
  firsts = subst (λ g. IsFirst Up g (part_at first_in_ends ends)) (sym is_f)
      (subst (λ g. IsFirst Up f g) (sym is_x) firsts);
  lasts = subst (λ g. IsFirst Down g (part_at last_in_ends ends)) (sym is_f)
      (subst (λ g. IsFirst Down f g) (sym is_z) lasts);
}

-- the nearest child of a parent is there
nearest_there : (links : List (ℕ × Link)) (S : ℕ → Type 0) (R : ℕ → ℕ → Type 0) (p : ℕ) (o : Option ℕ)
    → IsNearest S R (part_at parent_of links) p o
    → (c : ℕ) → o ≡ Some c → IsSome (value_at links c)
nearest_there links S R p None is c here = let never : None ≡ Some c = here in absurd (cc)
nearest_there links S R p (Some b) is c here = search rules

module _ (links : List (ℕ × Link)) (ends : List (ℕ × Ends)) (family : IsFamily links ends) (child parent : ℕ)
    (parent_stands : IsSome (value_at ends parent)) where
  -- the next one after the child before, else the first child, is the nearest behind the new child
  behind_is : (free : part_at parent_of links child ≡ None) (prev : Option ℕ)
      → IsNearest (λ d. d < child) Down (part_at parent_of links) parent prev
      → IsNearest (λ d. child < d) Up (part_at parent_of links) parent (child_after links ends prev parent)
  behind_is free None is = search rules
  behind_is free (Some b) is = search rules

  -- a child under a parent
  pub family-link : (free : part_at parent_of links child ≡ None) → IsSome (value_at links child)
      → (prev : Option ℕ) → IsNearest (λ d. d < child) Down (part_at parent_of links) parent prev
      → (behind : Option ℕ) → behind ≡ child_after links ends prev parent
      → IsFamily
      (relinked links ends child parent prev behind (Some child) (Some child)
      (record { parent = Some parent; before = prev; after = behind }))
      (rehung links ends child parent prev behind (Some child) (Some child)
      (record { parent = Some parent; before = prev; after = behind }))
  family-link free child_stands prev is_prev behind same =
      let f : ℕ → Option ℕ = part_at parent_of links in
      let link : Link = record { parent = Some parent; before = prev; after = behind } in
      let is_behind : IsNearest (λ d. child < d) Up f parent behind =
      subst (λ o. IsNearest (λ d. child < d) Up f parent o) (sym same) (behind_is free prev is_prev) in
      let there : AreThere links ends child parent prev behind (Some child) (Some child) link = record {
        the_child = child_stands;
        the_parent = parent_stands;
        the_prev = nearest_there links (λ d. d < child) Down parent prev is_prev;
        the_behind = nearest_there links (λ d. child < d) Up parent behind is_behind;
      } in
      family_of
      (relinked links ends child parent prev behind (Some child) (Some child) link)
      (rehung links ends child parent prev behind (Some child) (Some child) link)
      (put f child (Some parent))
      (put (put_at (part_at after_of links) prev (Some child)) child behind)
      (put (put_at (part_at before_of links) behind (Some child)) child prev)
      (put_unless (part_at first_in_ends ends) prev parent (Some child))
      (put_unless (part_at last_in_ends ends) behind parent (Some child))
      (relinked-parent links ends child parent prev behind (Some child) (Some child) link there)
      (relinked-after links ends child parent prev behind (Some child) (Some child) link there)
      (relinked-before links ends child parent prev behind (Some child) (Some child) link there)
      (rehung-first links ends child parent prev behind (Some child) (Some child) link there)
      (rehung-last links ends child parent prev behind (Some child) (Some child) link there)
      (link_next Up up_irreflexive up_transitive up_total f child parent free (part_at after_of links) prev behind
      family.afters is_prev is_behind)
      (link_next Down down_irreflexive down_transitive down_total f child parent free (part_at before_of links)
      behind prev family.befores is_behind is_prev)
      (link_first Up up_irreflexive up_transitive up_total f child parent free (part_at first_in_ends ends) prev
      family.firsts is_prev)
      (link_first Down down_irreflexive down_transitive down_total f child parent free (part_at last_in_ends ends)
      behind family.lasts is_behind)

  -- a child taken off its parent
  pub family-unlink : part_at parent_of links child ≡ Some parent
      → (prev behind : Option ℕ) → prev ≡ part_at before_of links child → behind ≡ part_at after_of links child
      → IsFamily
      (relinked links ends child parent prev behind behind prev (record { parent = None; before = None; after = None }))
      (rehung links ends child parent prev behind behind prev (record { parent = None; before = None; after = None }))
  family-unlink under prev behind same_prev same_behind =
      let f : ℕ → Option ℕ = part_at parent_of links in
      let link : Link = record { parent = None; before = None; after = None } in
      let is_prev : IsNearest (λ d. d < child) Down f parent prev =
      subst (λ o. IsNearest (λ d. d < child) Down f parent o) (sym same_prev) (family.befores child parent under) in
      let is_behind : IsNearest (λ d. child < d) Up f parent behind =
      subst (λ o. IsNearest (λ d. child < d) Up f parent o) (sym same_behind) (family.afters child parent under) in
      let there : AreThere links ends child parent prev behind behind prev link = record {
        the_child = part_there parent_of links child parent under;
        the_parent = parent_stands;
        the_prev = nearest_there links (λ d. d < child) Down parent prev is_prev;
        the_behind = nearest_there links (λ d. child < d) Up parent behind is_behind;
      } in
      family_of
      (relinked links ends child parent prev behind behind prev link)
      (rehung links ends child parent prev behind behind prev link)
      (put f child None)
      (put (put_at (part_at after_of links) prev behind) child None)
      (put (put_at (part_at before_of links) behind prev) child None)
      (put_unless (part_at first_in_ends ends) prev parent behind)
      (put_unless (part_at last_in_ends ends) behind parent prev)
      (relinked-parent links ends child parent prev behind behind prev link there)
      (relinked-after links ends child parent prev behind behind prev link there)
      (relinked-before links ends child parent prev behind behind prev link there)
      (rehung-first links ends child parent prev behind behind prev link there)
      (rehung-last links ends child parent prev behind behind prev link there)
      (unlink_next Up up_irreflexive up_transitive up_total f child parent under (part_at after_of links) prev
      behind family.afters is_prev is_behind)
      (unlink_next Down down_irreflexive down_transitive down_total f child parent under (part_at before_of links)
      behind prev family.befores is_behind is_prev)
      (unlink_first Up up_irreflexive up_transitive up_total f child parent under (part_at first_in_ends ends) prev
      behind family.firsts is_prev is_behind)
      (unlink_first Down down_irreflexive down_transitive down_total f child parent under (part_at last_in_ends ends)
      behind prev family.lasts is_behind is_prev)

module _ (links : List (ℕ × Link)) (ends : List (ℕ × Ends)) (family : IsFamily links ends) where
  -- whose parent is p has p's ends
  pub parent_there : (child p : ℕ) → part_at parent_of links child ≡ Some p → IsSome (value_at ends p)
  parent_there child p under = search rules

  -- a new parent without children, a new child without a parent
  pub family-push_ends : (n : ℕ) (e : Ends) → e.first ≡ None → e.last ≡ None → IsFamily links (ends ++ (n, e) ∷ [])
  family-push_ends n e no_first no_last =
      family_of links (ends ++ (n, e) ∷ []) (part_at parent_of links) (part_at after_of links)
      (part_at before_of links) (part_at first_in_ends ends) (part_at last_in_ends ends)
      refl refl refl (part-push first_in_ends ends n e no_first) (part-push last_in_ends ends n e no_last) family.afters
      family.befores family.firsts family.lasts

  -- a new child without a parent
  pub family-push_links : (n : ℕ) (l : Link) → l.parent ≡ None → l.before ≡ None → l.after ≡ None
      → IsFamily (links ++ (n, l) ∷ []) ends
  family-push_links n l no_parent no_before no_after =
      family_of (links ++ (n, l) ∷ []) ends (part_at parent_of links) (part_at after_of links)
      (part_at before_of links) (part_at first_in_ends ends) (part_at last_in_ends ends)
      (part-push parent_of links n l no_parent) (part-push after_of links n l no_after)
      (part-push before_of links n l no_before) refl refl
      family.afters family.befores family.firsts family.lasts

  -- putting none where there is none changes nothing
  put_same : (f : ℕ → Option ℕ) (n : ℕ) → f n ≡ None → put f n None ≡ f
  put_same f n none = search rules

  -- without a child that has no parent
  pub family-without_link : (n : ℕ) → part_at parent_of links n ≡ None → IsFamily (without links n) ends
  family-without_link n free =
      family_of (without links n) ends (part_at parent_of links) (put (part_at after_of links) n None)
      (put (part_at before_of links) n None) (part_at first_in_ends ends) (part_at last_in_ends ends)
      (part-without parent_of n links ∙ put_same (part_at parent_of links) n free)
      (part-without after_of n links) (part-without before_of n links) refl refl
      (λ c p under. rw (put-other (part_at after_of links) n None c (apart c p under)) (family.afters c p under))
      (λ c p under. rw (put-other (part_at before_of links) n None c (apart c p under)) (family.befores c p under))
      family.firsts family.lasts
    where
      apart : (c p : ℕ) → part_at parent_of links c ≡ Some p → c ≡ n → ⊥
      apart c p under same = search rules

  -- without a parent that has no child
  pub family-without_ends : (n : ℕ) → ((d : ℕ) → part_at parent_of links d ≡ Some n → ⊥)
      → IsFamily links (without ends n)
  family-without_ends n childless =
      search (
        rules,
        family_of links (without ends n) (part_at parent_of links) (part_at after_of links) (part_at before_of links)
            (put (part_at first_in_ends ends) n None) (put (part_at last_in_ends ends) n None),
        part-without first_in_ends n ends,
        part-without last_in_ends n ends,
      )
