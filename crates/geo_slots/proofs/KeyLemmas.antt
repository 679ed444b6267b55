-- The keys of the pages, as a key is looked up, given and taken away.
use Rattle.std.proofs.Common.{◌≡◌, ◌≢◌, ℕ, ◌+◌, ◌-◌, ◌*◌, ◌/◌, ◌%◌, ◌<◌, ◌≤◌, ◌^◌, [], ◌∷◌, ◌++◌, Option, length, zero, suc, Some, None, is_some, IsSome, max, sym, refl, ap, subst, ◌∙◌, inl, inr, arith}
use Rattle.std.proofs.lemmas.Bool.{cases_eq, cases_lt}
use Rattle.std.proofs.lemmas.Option.{same_Some}
use Rattle.std.specs.Prelude.{IfNone, slice_index_or, slice_set}
use Rattle.std.specs.List.{slice_get, remove}
use Rattle.std.proofs.lemmas.List.{get_or-set_same}
use Rattle.std.specs.Option.{option_map, option_and_then}
use Rattle.geo_slots.specs.Slots.{value_at, with_value, without}
use Rattle.geo_slots.specs.Pages.{Pages, IsGap, IsFull, IsFirst, IsWith, AreInOrder, ArePages, AreWith, HaveRoom, key_in, key_at, page_at}
use Rattle.geo_slots.specs.declared.page.Page.{Page}
use Rattle.geo_slots.proofs.RowLemmas.{IsRising-push, IsRising-with_value, IsRising-without, value_at_next, value_at-last, value_at-other, value_at-set, value_at-kept, value_at-without, value_at-gone}
use Rattle.geo_slots.proofs.PageLemmas.{none_live, live_with_key}
use Rattle.geo_slots.proofs.PlaceLemmas.{entry_at, entry_read, number_at, place_in, place_within, before_here, value_here, set_here, remove_here, gap}

-- the key of a number is that of its page
pub key_there : (pages : Pages) (n m : ℕ) (page : Page) → n / 64 ≡ m → value_at pages m ≡ Some page
    → key_at pages n ≡ key_in page (n % 64)
key_there pages n m page place there =
    ap (option_and_then (λ p. key_in p (n % 64))) (ap (value_at pages) place ∙ there)

-- a number without a page has no key
pub no_key : (pages : Pages) (n m : ℕ) → n / 64 ≡ m → value_at pages m ≡ None → key_at pages n ≡ None
no_key pages n m place none = ap (option_and_then (λ p. key_in p (n % 64))) (ap (value_at pages) place ∙ none)

-- pages with the same page under a number have the same key
same_key : (old new : Pages) (n : ℕ) → value_at new (n / 64) ≡ value_at old (n / 64) → key_at new n ≡ key_at old n
same_key old new n same = ap (option_and_then (λ p. key_in p (n % 64))) same

-- the page that is read at a place is its number's
pub page_read : (pages : Pages) (end at m : ℕ) (e : ℕ × Page) → AreInOrder pages end → page_at pages at ≡ Some m
    → e ≡ slice_index_or pages at e → value_at pages m ≡ Some e.1
page_read pages end at m e o is read = value_here 0 at end pages m e.1 o.rising (entry_read pages at m e is read)

-- the same of a place that was guessed, where the number is the page's
pub page_got : (pages : Pages) (end at m : ℕ) (e : ℕ × Page) → AreInOrder pages end → at < length pages
    → e ≡ slice_index_or pages at e → e.0 ≡ m → value_at pages m ≡ Some e.1
page_got pages end at m e o within read is =
    page_read pages end at m e o (number_at pages at e within ∙ ap (λ x. Some x.0) (sym read) ∙ ap Some is) read

-- where a page would stand, its numbers have no key
pub no_key_in_gap : (pages : Pages) (end at n : ℕ) → AreInOrder pages end → IsGap pages (n / 64) at
    → key_at pages n ≡ None
no_key_in_gap pages end at n o g =
    no_key pages n (n / 64) refl
    (gap (n / 64) (n / 64) at 0 end pages o.rising g.before (omega arith) (λ j is. g.behind at j (omega arith) is))

pub no_value : {A : Type 0} (o : Option A) → o ≡ None → IsSome o → ⊥
no_value None none some = absurd cc
no_value (Some x) none some = absurd cc

no_some : {A : Type 0} (o : Option A) (x : A) → o ≡ None → o ≡ Some x → ⊥
no_some None x none some = absurd cc
no_some (Some y) x none some = absurd cc

-- a number of a page gets another key, or none
pub with_key : (pages : Pages) (n : ℕ) (key : Option ℕ) (page new : Page) → value_at pages (n / 64) ≡ Some page
    → IsWith page (n % 64) key new → AreWith pages n key (with_value pages (n / 64) new)
with_key pages n key page new there changed =
    let m = n / 64 in
    let now : value_at (with_value pages m new) m ≡ Some new = value_at-set m new pages (ap is_some there) in
    record {
      here = key_there (with_value pages m new) n m new refl now ∙ changed.here;
      others = λ k differs.
          elim (cases_eq (k / 64) m) [
            | inl same ↦
                key_there (with_value pages m new) k m new same now
                ∙ changed.others (k % 64) (omega arith) (λ equal. differs (omega (arith, equal, same)))
                ∙ sym (key_there pages k m page same there)
            | inr other ↦ same_key pages (with_value pages m new) k (value_at-kept m (k / 64) new pages other)
          ];
    }

-- a page without a key is taken out
pub without_page : (pages : Pages) (m : ℕ) (page : Page) → value_at pages m ≡ Some page → page.live ≡ 0 → (k : ℕ)
    → key_at (without pages m) k ≡ key_at pages k
without_page pages m page there none k =
    elim (cases_eq (k / 64) m) [
      | inl same ↦
          no_key (without pages m) k m same (value_at-gone m pages)
          ∙ sym (key_there pages k m page same there ∙ none_live page (k % 64) none)
      | inr other ↦ same_key pages (without pages m) k (value_at-without m (k / 64) pages other)
    ]

-- the same pages but for one, which is no shorter, are in order
in_order_with : (pages : Pages) (end m : ℕ) (page new : Page) → AreInOrder pages end → value_at pages m ≡ Some page
    → IsFull new → AreInOrder (with_value pages m new) end
in_order_with pages end m page new o there full =
    record {
      rising = IsRising-with_value m new 0 pages end o.rising;
      small = o.small;
      full = λ j p is.
          elim (cases_eq j m) [
            | inl same ↦
                let now = value_at-set m new pages (ap is_some there) in
                let equal : new ≡ p = same_Some _ _ (sym now ∙ subst (λ i. value_at (with_value pages m new) i ≡ Some p)
                same is) in
                subst IsFull equal full
            | inr other ↦ o.full j p (sym (value_at-kept m j new pages other) ∙ is)
          ];
    }

-- where one page changes, each number still has a page
there_with : (pages : Pages) (m : ℕ) (page new : Page) → value_at pages m ≡ Some page → (j : ℕ)
    → IsSome (value_at pages j) → IsSome (value_at (with_value pages m new) j)
there_with pages m page new there j some =
    elim (cases_eq j m) [
      | inl same ↦
          ap is_some (ap (value_at (with_value pages m new)) same ∙ value_at-set m new pages (ap is_some there))
      | inr other ↦ ap is_some (value_at-kept m j new pages other) ∙ some
    ]

-- the next number gets a key
pub pages_insert : (pages : Pages) (end next key : ℕ) (page new : Page) → ArePages pages end next → next < end * 64
    → value_at pages (next / 64) ≡ Some page → IsWith page (next % 64) (Some key) new
    → ArePages (with_value pages (next / 64) new) end (next + 1)
pages_insert pages end next key page new a room there changed =
    let m = next / 64 in
    let keys = with_key pages next (Some key) page new there changed in
    let now : value_at (with_value pages m new) m ≡ Some new = value_at-set m new pages (ap is_some there) in
    record {
      in_order = in_order_with pages end m page new a.in_order there
          (changed.full ∙ a.in_order.full m page there);
      reaches = omega (arith, room);
      used = λ j p is below.
          elim (cases_eq j m) [
            | inl same ↦
                let equal : new ≡ p = same_Some _ _ (sym now ∙ subst (λ i. value_at (with_value pages m new) i ≡ Some p)
                same is) in
                subst (λ q. q.live ≢ 0) equal (live_with_key new (next % 64) (ap is_some changed.here))
            | inr other ↦
                a.used j p (sym (value_at-kept m j new pages other) ∙ is) (omega (arith, below, other))
          ];
      there = λ j from below. there_with pages m page new there j (a.there j (omega (arith, from)) below);
      unused = λ n from. keys.others n (λ same. omega (arith, same, from)) ∙ a.unused n (omega (arith, from));
    }

-- a page changes that has a key left, or is the next number's or behind it
pub pages_change : (pages : Pages) (end next n : ℕ) (page new : Page) → ArePages pages end next
    → value_at pages (n / 64) ≡ Some page → IsWith page (n % 64) None new
    → (n / 64 < next / 64 → new.live ≢ 0) → ArePages (with_value pages (n / 64) new) end next
pages_change pages end next n page new a there changed left =
    let m = n / 64 in
    let keys = with_key pages n None page new there changed in
    let now : value_at (with_value pages m new) m ≡ Some new = value_at-set m new pages (ap is_some there) in
    record {
      in_order = in_order_with pages end m page new a.in_order there
          (changed.full ∙ a.in_order.full m page there);
      reaches = a.reaches;
      used = λ j p is below.
          elim (cases_eq j m) [
            | inl same ↦
                let equal : new ≡ p = same_Some _ _ (sym now ∙ subst (λ i. value_at (with_value pages m new) i ≡ Some p)
                same is) in
                subst (λ q. q.live ≢ 0) equal (left (omega (arith, same, below)))
            | inr other ↦ a.used j p (sym (value_at-kept m j new pages other) ∙ is) below
          ];
      there = λ j from below. there_with pages m page new there j (a.there j from below);
      unused = λ k from.
          elim (cases_eq k n) [
            | inl same ↦ ap (key_at (with_value pages m new)) same ∙ keys.here
            | inr other ↦ keys.others k other ∙ a.unused k from
          ];
    }

-- a page before the next number's has no key left and goes
pub pages_drop : (pages : Pages) (end next n : ℕ) (page new : Page) → ArePages pages end next
    → value_at pages (n / 64) ≡ Some page → IsWith page (n % 64) None new → new.live ≡ 0 → n / 64 < next / 64
    → ArePages (without (with_value pages (n / 64) new) (n / 64)) end next
pages_drop pages end next n page new a there changed none before =
    let m = n / 64 in
    let mid = with_value pages m new in
    let keys = with_key pages n None page new there changed in
    let now : value_at mid m ≡ Some new = value_at-set m new pages (ap is_some there) in
    let order = in_order_with pages end m page new a.in_order there (changed.full ∙ a.in_order.full m page there) in
    record {
      in_order = record {
        rising = IsRising-without m 0 mid end order.rising;
        small = order.small;
        full = λ j p is.
            elim (cases_eq j m) [
              | inl same ↦
                  absurd (no_some _ p (ap (value_at (without mid m)) same ∙ value_at-gone m mid) is)
              | inr other ↦ order.full j p (sym (value_at-without m j mid other) ∙ is)
            ];
      };
      reaches = a.reaches;
      used = λ j p is below.
          elim (cases_eq j m) [
            | inl same ↦ absurd (no_some _ p (ap (value_at (without mid m)) same ∙ value_at-gone m mid) is)
            | inr other ↦
                a.used j p (sym (value_at-without m j mid other ∙ value_at-kept m j new pages other) ∙ is) below
          ];
      there = λ j from below.
          let other : j ≡ m → ⊥ = λ same. omega (arith, same, from, before) in
          ap is_some (value_at-without m j mid other ∙ value_at-kept m j new pages other) ∙ a.there j from below;
      unused = λ k from.
          without_page mid m new now none k
          ∙ elim (cases_eq k n) [
            | inl same ↦ ap (key_at mid) same ∙ keys.here
            | inr other ↦ keys.others k other ∙ a.unused k from
          ];
    }

-- the first number with a key on a page, from the first bit
pub first_on_page : (m number : ℕ) (page : Page) (found : Option ℕ) → number < m * 64 + 64
    → IsFirst (key_in page) (number - m * 64) 64 found
    → IsFirst (λ n. key_in page (n % 64)) (max number (m * 64)) (m * 64 + 64) (option_map (λ i. m * 64 + i) found)
first_on_page m number page None within first = λ k low high. first (k % 64) (omega (arith, low, high)) (omega arith)
first_on_page m number page (Some i) within first =
    let place : (m * 64 + i) % 64 ≡ i = omega (arith, first.1) in (
      omega (arith, first.0),
      omega (arith, first.1),
      ap is_some (ap (key_in page) place) ∙ first.2,
      λ k low high. first.3 (k % 64) (omega (arith, low, high, first.1)) (omega (arith, low, high, first.1)),
    )

-- the keys of a page's numbers are those of its places
pub first_of_page : (pages : Pages) (m number : ℕ) (page : Page) (found : Option ℕ) → value_at pages m ≡ Some page
    → IsFirst (λ n. key_in page (n % 64)) (max number (m * 64)) (m * 64 + 64) found
    → IsFirst (key_at pages) (max number (m * 64)) (m * 64 + 64) found
first_of_page pages m number page None there first =
    λ k low high. key_there pages k m page (omega (arith, low, high)) there ∙ first k low high
first_of_page pages m number page (Some n) there first = (
  first.0,
  first.1,
  ap is_some (key_there pages n m page (omega (arith, first.0, first.1)) there) ∙ first.2,
  λ k low high. key_there pages k m page (omega (arith, low, high, first.1)) there ∙ first.3 k low high,
)

-- a number with a key was given out
given_out : (pages : Pages) (end next n : ℕ) → ArePages pages end next → IsSome (key_at pages n) → n < next
given_out pages end next n a some = elim (cases_lt n next) [
  | inl below ↦ below
  | inr past ↦ absurd (no_value (key_at pages n) (a.unused n past) some)
]

-- the first number with a key of its own page is the first of all
pub first_here : (pages : Pages) (end next m number found : ℕ) → ArePages pages end next → m ≡ number / 64
    → IsFirst (key_at pages) (max number (m * 64)) (m * 64 + 64) (Some found)
    → IsFirst (key_at pages) number next (Some found)
first_here pages end next m number found a place first = (
  omega (arith, first.0),
  given_out pages end next found a first.2,
  first.2,
  λ k low high. first.3 k (omega (arith, low, place)) high,
)

-- What a page at a place says of the first number with a key from a number on, as the search goes from page to page.
module _ (pages : Pages) (end next number bound at : ℕ) (found : Option ℕ) (a : ArePages pages end next)
    (passed : (k : ℕ) → number ≤ k → k / 64 < bound → key_at pages k ≡ None)
    (before : (k j : ℕ) → k < at → page_at pages k ≡ Some j → j < bound) where
  -- no number before the page at the place has a key
  none_before : (m : ℕ) → page_at pages at ≡ Some m → (k : ℕ) → number ≤ k → k / 64 < m → key_at pages k ≡ None
  none_before m is k low high =
      elim (cases_lt (k / 64) bound) [
        | inl below ↦ passed k low below
        | inr past ↦
            no_key pages k (k / 64) refl (gap bound (k / 64) at 0 end pages a.in_order.rising before past
            (λ j there. let same : j ≡ m = same_Some _ _ (sym there ∙ is) in omega (arith, same, high)))
      ]

  -- there is no page any more
  pub first_past : page_at pages at ≡ None → found ≡ None → IsFirst (key_at pages) number next found
  first_past is none =
      subst (IsFirst (key_at pages) number next) (sym none) (λ k low high.
      elim (cases_lt (k / 64) bound) [
        | inl below ↦ passed k low below
        | inr past ↦
            no_key pages k (k / 64) refl (gap bound (k / 64) at 0 end pages a.in_order.rising before past
            (λ j there. absurd (no_some _ j is there)))
      ])

  -- the page there tells: where it has no key it is the next number's, or behind it, and no other has one
  pub first_onward : (m : ℕ) → page_at pages at ≡ Some m → number ≤ m * 64
      → IsFirst (key_at pages) (max number (m * 64)) (m * 64 + 64) found
      → IfNone found ((page : ℕ) (slots : Page) → slice_get pages at ≡ Some (page, slots) → number ≤ page * 64
      → slots.live ≡ 0) → IsFirst (key_at pages) number next found
  first_onward m is from first dead = by_found found first dead
    where
      by_found : (found : Option ℕ) → IsFirst (key_at pages) (max number (m * 64)) (m * 64 + 64) found
          → IfNone found ((page : ℕ) (slots : Page) → slice_get pages at ≡ Some (page, slots) → number ≤ page * 64
          → slots.live ≡ 0) → IsFirst (key_at pages) number next found
      by_found (Some n) first dead = (
        omega (arith, first.0),
        given_out pages end next n a first.2,
        first.2,
        λ k low high.
            elim (cases_lt (k / 64) m) [
              | inl below ↦ none_before m is k low below
              | inr past ↦ first.3 k (omega (arith, low, past)) high
            ],
      )
      by_found None first dead = λ k low high.
          elim (cases_lt (k / 64) m) [
            | inl below ↦ none_before m is k low below
            | inr past ↦
                elim (cases_lt k (m * 64 + 64)) [
                  | inl here ↦ first k (omega (arith, low, past)) here
                  | inr beyond ↦
                      let e = entry_at pages at m is in
                      let there = value_here 0 at end pages m e.0 a.in_order.rising e.1 in
                      absurd (a.used m e.0 there (omega (arith, high, beyond)) (dead m e.0 e.1 from))
                ]
          ]

-- what `first_at` answers of the page at a place
module _ (pages : Pages) (end next number at : ℕ) (found : Option ℕ) (a : ArePages pages end next) where
  -- whether a page stands at the place or none
  by_page : (bound at : ℕ) → ((k : ℕ) → number ≤ k → k / 64 < bound → key_at pages k ≡ None)
      → ((k j : ℕ) → k < at → page_at pages k ≡ Some j → j < bound)
      → ((m : ℕ) → page_at pages at ≡ Some m → number ≤ m * 64) → (page_at pages at ≡ None → found ≡ None)
      → ((m : ℕ) → page_at pages at ≡ Some m → IsFirst (key_at pages) (max number (m * 64)) (m * 64 + 64) found)
      → IfNone found ((page : ℕ) (slots : Page) → slice_get pages at ≡ Some (page, slots) → number ≤ page * 64
      → slots.live ≡ 0) → IsFirst (key_at pages) number next found
  by_page bound at passed before from past first dead = by_entry (page_at pages at) refl
    where
      by_entry : (o : Option ℕ) → page_at pages at ≡ o → IsFirst (key_at pages) number next found
      by_entry None is = first_past pages end next number bound at found a passed before is (past is)
      by_entry (Some m) is =
          first_onward pages end next number bound at found a passed before m is (from m is) (first m is) dead

  -- behind a page of which no number from one on has a key
  pub first_next : page_at pages at ≡ Some (number / 64)
      → IsFirst (key_at pages) (max number (number / 64 * 64)) (number / 64 * 64 + 64) None
      → (page_at pages (at + 1) ≡ None → found ≡ None)
      → ((m : ℕ) → page_at pages (at + 1) ≡ Some m
      → IsFirst (key_at pages) (max number (m * 64)) (m * 64 + 64) found)
      → IfNone found ((page : ℕ) (slots : Page) → slice_get pages (at + 1) ≡ Some (page, slots) → number ≤ page * 64
      → slots.live ≡ 0) → IsFirst (key_at pages) number next found
  first_next is none past first dead =
      by_page (number / 64 + 1) (at + 1) (λ k low high. none k (omega (arith, low)) (omega (arith, high)))
      (λ k j below there.
      elim (cases_eq k at) [
        | inl same ↦
            let equal : j ≡ number / 64 = same_Some _ _ (sym there ∙ ap (page_at pages) same ∙ is) in
            omega (arith, equal)
        | inr other ↦
            let less = before_here 0 at end pages (number / 64) a.in_order.rising is k j
            (omega (arith, below, other)) there in
            omega (arith, less)
      ])
      (λ m there.
      let more = before_here 0 (at + 1) end pages m a.in_order.rising there at (number / 64) (omega arith) is in
      omega (arith, more))
      past first dead

  -- where no page is the number's own
  pub first_from_gap : IsGap pages (number / 64) at → (page_at pages at ≡ None → found ≡ None)
      → ((m : ℕ) → page_at pages at ≡ Some m → IsFirst (key_at pages) (max number (m * 64)) (m * 64 + 64) found)
      → IfNone found ((page : ℕ) (slots : Page) → slice_get pages at ≡ Some (page, slots) → number ≤ page * 64
      → slots.live ≡ 0) → IsFirst (key_at pages) number next found
  first_from_gap g past first dead =
      by_page (number / 64) at (λ k low high. absurd (omega (arith, low, high))) g.before
      (λ m there. let more = g.behind at m (omega arith) there in omega (arith, more)) past first dead

-- a gap has no page
pub no_page_in_gap : (pages : Pages) (end at m : ℕ) → AreInOrder pages end → IsGap pages m at
    → value_at pages m ≡ None
no_page_in_gap pages end at m o g =
    gap m m at 0 end pages o.rising g.before (omega arith) (λ j is. g.behind at j (omega arith) is)

-- a page that is written at a place is written under its number
pub page_set : (pages : Pages) (end at m : ℕ) (e : ℕ × Page) (new : Page) → AreInOrder pages end
    → page_at pages at ≡ Some m → e ≡ slice_index_or pages at e
    → slice_set pages at (e.0, new) ≡ with_value pages m new
page_set pages end at m e new o is read =
    let number : e.0 ≡ m = ap (λ x. x.0) read ∙ (place_within pages at m e is).1 in
    ap (λ n. slice_set pages at (n, new)) number
    ∙ set_here 0 at end pages m e.1 new o.rising (entry_read pages at m e is read)

-- one page more behind the others, without keys
pages_push : (pages : Pages) (end : ℕ) (page : Page) → AreInOrder pages end → IsFull page → page.live ≡ 0
    → (end + 1) * 64 ≤ 2 ^ 64 → HaveRoom pages end (pages ++ (end, page) ∷ []) (end + 1)
pages_push pages end page o full none small =
    let new : Pages = pages ++ (end, page) ∷ [] in
    let last : value_at new end ≡ Some page = value_at-last end page pages
    (value_at_next end 0 pages end o.rising (omega arith)) in
    let kept : (j : ℕ) → (end ≡ j → ⊥) → value_at new j ≡ value_at pages j = λ j other.
    value_at-other end j page pages other in
    let order : AreInOrder new (end + 1) = record {
      rising = IsRising-push 0 pages end page o.rising;
      small = small;
      full = λ j p is.
          elim (cases_eq end j) [
            | inl same ↦
                let equal : page ≡ p = same_Some _ _ (sym last ∙ ap (value_at new) same ∙ is) in
                subst IsFull equal full
            | inr other ↦ o.full j p (sym (kept j other) ∙ is)
          ];
    } in
    let same : (n : ℕ) → key_at new n ≡ key_at pages n = λ n.
    elim (cases_eq end (n / 64)) [
      | inl place ↦
          key_there new n end page (sym place) last ∙ none_live page (n % 64) none
          ∙ sym (no_key pages n end (sym place) (value_at_next end 0 pages end o.rising (omega arith)))
      | inr other ↦ same_key pages new n (kept (n / 64) other)
    ] in
    record {
      in_order = order;
      grows = omega arith;
      pages_are = λ next a. record {
        in_order = order;
        reaches = omega (arith, a.reaches);
        used = λ j p is below.
            a.used j p (sym (kept j (λ equal. omega (arith, equal, below, a.reaches))) ∙ is) below;
        there = λ j from below.
            elim (cases_eq end j) [
              | inl place ↦ ap is_some (ap (value_at new) (sym place) ∙ last)
              | inr other ↦ ap is_some (kept j other) ∙ a.there j from (omega (arith, below, other))
            ];
        unused = λ n from. same n ∙ a.unused n from;
      };
      same = same;
    }

-- room that is made in turn
pub room_push : (old : Pages) (old_end : ℕ) (pages : Pages) (end : ℕ) (page : Page)
    → HaveRoom old old_end pages end → IsFull page → page.live ≡ 0 → (end + 1) * 64 ≤ 2 ^ 64
    → HaveRoom old old_end (pages ++ (end, page) ∷ []) (end + 1)
room_push old old_end pages end page r full none small =
    let more = pages_push pages end page r.in_order full none small in
    record {
      in_order = more.in_order;
      grows = omega (arith, r.grows);
      pages_are = λ next a. more.pages_are next (r.pages_are next a);
      same = λ n. more.same n ∙ r.same n;
    }

-- no room more
pub room_none : (pages : Pages) (end : ℕ) → AreInOrder pages end → HaveRoom pages end pages end
room_none pages end o =
    record { in_order = o; grows = omega arith; pages_are = λ next a. a; same = λ n. refl }

-- a key is taken from the page at a place
module _ (pages : Pages) (end next number at : ℕ) (e : ℕ × Page) (new : Page) (a : ArePages pages end next)
    (is : page_at pages at ≡ Some (number / 64)) (read : e ≡ slice_index_or pages at e)
    (changed : IsWith e.1 (number % 64) None new) where
  there_before : value_at pages (number / 64) ≡ Some e.1
  there_before = page_read pages end at (number / 64) e a.in_order is read

  set_there : slice_set pages at (e.0, new) ≡ with_value pages (number / 64) new
  set_there = page_set pages end at (number / 64) e new a.in_order is read

  -- the keys then
  pub keys_cleared : AreWith pages number None (slice_set pages at (e.0, new))
  keys_cleared =
      subst (AreWith pages number None) (sym set_there) (with_key pages number None e.1 new there_before changed)

  -- the page may stay
  pub pages_cleared : (number / 64 < next / 64 → new.live ≢ 0) → ArePages (slice_set pages at (e.0, new)) end next
  pages_cleared left =
      subst (λ ps. ArePages ps end next) (sym set_there)
      (pages_change pages end next number e.1 new a there_before changed left)

  -- what is read at the place afterwards
  pub read_cleared : (f : ℕ × Page) → f ≡ slice_index_or (slice_set pages at (e.0, new)) at f → f.1 ≡ new
  read_cleared f again =
      ap (λ x. x.1) (again ∙ get_or-set_same pages at (e.0, new) f (place_in pages at (number / 64) is))

  remove_there : remove (slice_set pages at (e.0, new)) at
      ≡ without (with_value pages (number / 64) new) (number / 64)
  remove_there =
      let m = number / 64 in
      let order = in_order_with pages end m e.1 new a.in_order there_before
      (changed.full ∙ a.in_order.full m e.1 there_before) in
      let number_is : e.0 ≡ m = ap (λ x. x.0) read ∙ (place_within pages at m e is).1 in
      let here : slice_get (slice_set pages at (e.0, new)) at ≡ Some (m, new) =
      get_set pages at (e.0, new) (place_in pages at m is) ∙ ap (λ n. Some (n, new)) number_is in
      ap (λ ps. remove ps at) set_there
      ∙ remove_here 0 at end (with_value pages m new) m new order.rising
      (subst (λ ps. slice_get ps at ≡ Some (m, new)) set_there here)
    where
      get_set : (ps : Pages) (at : ℕ) (x : ℕ × Page) → at < length ps → slice_get (slice_set ps at x) at ≡ Some x
      get_set [] at x within = absurd (omega (arith, within))
      get_set (q ∷ qs) zero x within = refl
      get_set (q ∷ qs) (suc at) x within = get_set qs at x (omega (arith, within))

  -- or the page goes
  pub pages_dropped : new.live ≡ 0 → number / 64 < next / 64
      → ArePages (remove (slice_set pages at (e.0, new)) at) end next
  pages_dropped none before =
      subst (λ ps. ArePages ps end next) (sym remove_there)
      (pages_drop pages end next number e.1 new a there_before changed none before)

  pub keys_dropped : new.live ≡ 0 → AreWith pages number None (remove (slice_set pages at (e.0, new)) at)
  keys_dropped none =
      subst (AreWith pages number None) (sym remove_there)
      (let keys = with_key pages number None e.1 new there_before changed in
      let now = value_at-set (number / 64) new pages (ap is_some there_before) in
      let same = without_page (with_value pages (number / 64) new) (number / 64) new now none in
      record {
        here = same number ∙ keys.here;
        others = λ n differs. same n ∙ keys.others n differs;
      })

-- where a page would stand, taking a key changes nothing
pub keys_in_gap : (pages : Pages) (end at number : ℕ) → AreInOrder pages end → IsGap pages (number / 64) at
    → AreWith pages number None pages
keys_in_gap pages end at number o g =
    record { here = no_key_in_gap pages end at number o g; others = λ n differs. refl }
