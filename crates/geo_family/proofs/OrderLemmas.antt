-- What becomes of the neighbours of all children, in one order, where a child is added or taken away.
use Rattle.std.proofs.Common.{◌≡◌, ℕ, Some, None, Option, ◌⊎◌, inl, inr, sym, ◌∙◌, rules}
use Rattle.geo_family.specs.Nearest.{IsNearest, put, put_at, put_unless, NextIsNearest, IsFirst}
use Rattle.geo_family.proofs.NearestLemmas.{add_unseen, drop_other}

module _
    (R : ℕ → ℕ → Type 0)
    (irreflexive : (a : ℕ) → R a a → ⊥)
    (transitive : (a b c : ℕ) → R a b → R b c → R a c)
    (total : (a b : ℕ) → (a ≡ b → ⊥) → R a b ⊎ R b a)
    (f : ℕ → Option ℕ)
    (child parent : ℕ)
  where
    -- the last one before the child
    abbrev pub IsBefore : Option ℕ → Type 0
    IsBefore prev = IsNearest (λ d. R d child) (λ a b. R b a) f parent prev

    -- the first one behind the child
    abbrev pub IsBehind : Option ℕ → Type 0
    IsBehind next = IsNearest (λ d. R child d) R f parent next

    -- for all but the one before the new child, what comes next stays
    link_other : (free : f child ≡ None) (next : ℕ → Option ℕ) (prev : Option ℕ) → NextIsNearest R f next
        → IsBefore prev
        → (c p : ℕ) → f c ≡ Some p → ((b : ℕ) → prev ≡ Some b → c ≡ b → ⊥)
        → IsNearest (λ d. R c d) R (put f child (Some parent)) p (next c)
    link_other free next None nexts prev c p had apart =
        add_unseen f child parent free (λ d. R c d) R p (next c) (λ seen same. prev c seen (rw same had))
        (nexts c p had)
    link_other free next (Some b) nexts prev c p had apart = search rules

    -- for each child that was there, what comes next: for the one before the new child it is that one
    link_prev : (free : f child ≡ None) (next : ℕ → Option ℕ) (prev : Option ℕ) → NextIsNearest R f next → IsBefore prev
        → (c p : ℕ) → f c ≡ Some p
        → IsNearest (λ d. R c d) R (put f child (Some parent)) p (put_at next prev (Some child) c)
    link_prev free next None nexts prev c p had =
        link_other free next None nexts prev c p had (λ b no _. let never : None ≡ Some b = no in cc)
    link_prev free next (Some b) nexts prev c p had = search rules

    -- the neighbours of all, with the new child between its own
    pub link_next : (free : f child ≡ None) (next : ℕ → Option ℕ) (prev behind : Option ℕ) → NextIsNearest R f next
        → IsBefore prev → IsBehind behind
        → NextIsNearest R (put f child (Some parent)) (put (put_at next prev (Some child)) child behind)
    link_next free next prev behind nexts is_prev is_behind c p has =
        search (rules, link_prev free next prev nexts is_prev c p)

    -- the first ones of all, with the new child
    pub link_first : (free : f child ≡ None) (first : ℕ → Option ℕ) (prev : Option ℕ) → IsFirst R f first
        → IsBefore prev
        → IsFirst R (put f child (Some parent)) (put_unless first prev parent (Some child))
    link_first free first None firsts prev p = search rules
    link_first free first (Some b) firsts prev p = search rules

    -- where none is before the new child, the first child of its parent is behind it
    pub behind_first : (free : f child ≡ None) (first : ℕ → Option ℕ) → IsFirst R f first → IsBefore None
        → IsBehind (first parent)
    behind_first free first firsts prev = later free prev (first parent) (firsts parent)
      where
        later : (free : f child ≡ None) → IsBefore None → (o : Option ℕ) → IsNearest (λ d. Unit {0}) R f parent o
            → IsBehind o
        later free prev None is = λ d behind had. is d tt had
        later free prev (Some n) is =
            let apart : n ≡ child → ⊥ = λ same. let no : None ≡ Some parent = sym free ∙ (rw same at is.1) in cc in (
              elim (total n child apart) [ inl early ↦ absurd (prev n early is.1) | inr late ↦ late ],
              is.1,
              λ d behind before had. is.2 d tt before had,
            )

    -- the child is its own parent's alone
    unlink_other : (under : f child ≡ Some parent) (next : ℕ → Option ℕ) (prev : Option ℕ) → NextIsNearest R f next
        → IsBefore prev
        → (c p : ℕ) → f c ≡ Some p → ((b : ℕ) → prev ≡ Some b → c ≡ b → ⊥)
        → IsNearest (λ d. R c d) R (put f child None) p (next c)
    unlink_other under next prev nexts is_prev c p had apart =
        drop_other f child (λ d. R c d) R p (next c)
        (λ here. not_next under prev is_prev c p had apart (next c) here (nexts c p had)) (nexts c p had)
      where
        not_next : (under : f child ≡ Some parent) (prev : Option ℕ) → IsBefore prev → (c p : ℕ) → f c ≡ Some p
            → ((b : ℕ) → prev ≡ Some b → c ≡ b → ⊥) → (o : Option ℕ) → o ≡ Some child
            → IsNearest (λ d. R c d) R f p o → ⊥
        not_next under prev is_prev c p had apart None here is = let no : None ≡ Some child = here in cc
        not_next under None is_prev c p had apart (Some a) here is = search rules
        not_next under (Some b) is_prev c p had apart (Some a) here is = search rules

    -- for each child, what comes next once one is taken off: for the one before that, the one behind it
    unlink_prev : (under : f child ≡ Some parent) (next : ℕ → Option ℕ) (prev behind : Option ℕ)
        → NextIsNearest R f next
        → IsBefore prev → IsBehind behind
        → (c p : ℕ) → f c ≡ Some p → IsNearest (λ d. R c d) R (put f child None) p (put_at next prev behind c)
    unlink_prev under next None behind nexts prev is_behind c p had = search rules
    unlink_prev under next (Some b) behind nexts prev is_behind c p had =
        search (rules, unlink_other under next (Some b) nexts prev c p had)

    -- the neighbours of all, without the child
    pub unlink_next : (under : f child ≡ Some parent) (next : ℕ → Option ℕ) (prev behind : Option ℕ)
        → NextIsNearest R f next → IsBefore prev → IsBehind behind
        → NextIsNearest R (put f child None) (put (put_at next prev behind) child None)
    unlink_next under next prev behind nexts is_prev is_behind c p has =
        search (rules, unlink_prev under next prev behind nexts is_prev is_behind c p)

    -- the first ones of all, without the child
    pub unlink_first : (under : f child ≡ Some parent) (first : ℕ → Option ℕ) (prev behind : Option ℕ)
        → IsFirst R f first → IsBefore prev → IsBehind behind
        → IsFirst R (put f child None) (put_unless first prev parent behind)
    unlink_first under first None behind firsts prev is_behind p = search rules
    unlink_first under first (Some b) behind firsts prev is_behind p = search rules
