-- The providers that are reached upwards from one, and whether a bio goes to them.
use Rattle.std.specs.Prelude.{◌≡◌, ◌≢◌, ◌⊎◌, ℕ, zero, suc, ◌+◌, ◌<◌, ◌≤◌, ◌==◌, Bool, true, false, not, List, [], ◌∷◌, ◌++◌, length, map, flat_map, fold, Option, Some, None, Contains, IsSomeAnd, slice_get, if◌then◌else◌, ◌||◌}
use Rattle.std.specs.Option.{option_map_or}
use Rattle.std.proofs.Common.{refl, sym, ◌∙◌, ap, subst, arith, inl, inr, append_assoc, rules}
use Rattle.std.proofs.lemmas.Bool.{cases_lt, eq-eqb, eqb-true, ne_eqb, false_from_ne_true, or_parts, le-leb, cases_Bool}
use Rattle.std.proofs.lemmas.List.{length-append, length-map, append-nil}
use Rattle.std.proofs.lemmas.List.Elements.{All-contains, Contains-append_left, Contains-push, Contains-push_cases}
use Rattle.geo_base.proofs.MemberLists.{in_flat_map, flat_map_cases, one_only, slot-contained}
use Rattle.geo_laws_counts.proofs.Orders.{contains-has}
use Rattle.geo_model.specs.Words.{names_number}
use Rattle.geo_model.specs.Topology.{Topology, Provider, Consumer, provider_at, consumers_of, providers_of, providers_under, attached_to}
use Rattle.geo_model.specs.Opens.{below, below_within, is_below}
use Rattle.geo_model.specs.World.{Config, Bio, BioOf, Taste}
use Rattle.geo_model.proofs.DemandLemmas.{names_some}
use Rattle.geo_mesh.specs.Graph.{IsSoundGraph, IsOffer}
use Rattle.geo_laws_graph.specs.LookupLaws.{EachIsFound, left_from}
use Rattle.geo_laws_graph.proofs.Found.{each-found}
use Rattle.geo_laws_graph.proofs.Members.{Origin, Contains-here, Contains-there, Contains-cases, Contains-filter, Contains-map, at_contained, filter-Contains, filter_map-Contains, find-Contains, map-Contains, nothing_in}
use Rattle.geo_laws_graph.proofs.Numbered.{number_found}
use Rattle.geo_laws_counts.proofs.Reach.{below_closed, below_self}
use Rattle.geo_laws_life.proofs.Standers.{PairsByRecursion}
use Rattle.geo_laws_making.proofs.Concats.{no_more}
use Rattle.geo_life.specs.Life.{consumers_above}
use Rattle.geo_moves.specs.Above.{has_number, offers_of, users_of, with_number}
use Rattle.geo_base.proofs.FindLists.{some-passes}
use Rattle.geo_base.proofs.AllLists.{all_pushed}
use Rattle.std.proofs.lemmas.Option.{slice_get_within, slice_get_read}
use Rattle.std.specs.List.{list_any}
use Rattle.geo_model.specs.declared.command.LineCommand.{LineCommand}
use Rattle.geo_model.specs.declared.step.Entry.{Entry}
use Rattle.geo_model.specs.Append.{is_growth_busy}
use Rattle.geo_bio.specs.declared.bio.Held.{Held}
use Rattle.geo_bio.specs.BioTable.{AreInOrder, BioTableView, bio_from}
use Rattle.geo_log.specs.Places.{delivered_at}
use Rattle.geo_state.specs.Shown.{shown_bios}
use Rattle.geo_state.specs.declared.state.State.{State}
use Rattle.geo_state.specs.Oldest.{first_passing, passes}
use Rattle.geo_state.specs.World.{world}
use Rattle.geo_state.proofs.CursorLemmas.{reached_above, reached_there}
use Rattle.geo_state.proofs.OrderLemmas.{number_below, table_rises}
use Rattle.geo_state.proofs.Walks.{walk_goes_on, walk_hits}

-- The providers that are reached upwards from one are those below which it is

-- Numbers

-- one that is among them is contained
contained-has : (ns : List ℕ) (n : ℕ) → has_number ns n ≡ true → Contains ns n
contained-has ns n has = search (rules, some-passes (λ m. m == n) ns has, eqb-true)

-- once it is put behind them it is there
with-new : (ns : List ℕ) (m : ℕ) → Contains (with_number ns m) m
with-new ns m = search (rules, contained-has ns m, Contains-push ns m)

-- the only one
alone : (n m : ℕ) → Contains (n ∷ []) m → n ≡ m
alone n m = one_only (n ∷ []) n m (omega arith) (Contains-here n [])

-- what is apart stays so
pairs-with : (ns : List ℕ) (m : ℕ) → PairsByRecursion (λ a b. a ≢ b) ns → has_number ns m ≡ false
    → PairsByRecursion (λ a b. a ≢ b) (ns ++ m ∷ [])
pairs-with [] m apart none = (tt, tt)
pairs-with (n ∷ ns) m apart none =
    let parts = or_parts (n == m) (has_number ns m) none in
    let other : n ≢ m = λ same. let never : true ≡ false = sym (eq-eqb n m same) ∙ parts.0 in absurd (cc) in
    (all_pushed (λ b. n ≢ b) ns m apart.0 other, pairs-with ns m apart.1 parts.1)

-- Many that are put behind them

-- a fact that stays with each that comes new holds with all of them
gathered : (P : List ℕ → Type 0) (ms : List ℕ)
    → ((ns : List ℕ) (m : ℕ) → Contains ms m → has_number ns m ≡ false → P ns → P (ns ++ m ∷ []))
    → (ns : List ℕ) → P ns → P (fold with_number ns ms)
gathered P [] more ns now = now
gathered P (m ∷ ms) more ns now =
    gathered P ms (λ ks k here. more ks k (Contains-there m k ms here)) (with_number ns m) (by (has_number ns m) refl)
  where
    by : (b : Bool) → has_number ns m ≡ b → P (if b then ns else ns ++ m ∷ [])
    by true e = now
    by false e = more ns m (Contains-here m ms) e now

all-old : (ms ns : List ℕ) (n : ℕ) → Contains ns n → Contains (fold with_number ns ms) n
all-old ms ns n =
    gathered (λ xs. Contains xs n) ms (λ ks k here out there. Contains-append_left ks (k ∷ []) n there) ns

all-new : (ms ns : List ℕ) (n : ℕ) → Contains ms n → Contains (fold with_number ns ms) n
all-new [] ns n never = absurd (nothing_in n never)
all-new (m ∷ ms) ns n there =
    elim (Contains-cases m n ms there) [
      | inl same ↦ all-old ms (with_number ns m) n (subst (λ k. Contains (with_number ns m) k) same (with-new ns m))
      | inr rest ↦ all-new ms (with_number ns m) n rest
    ]

-- and nothing else is among them
all-only : (P : ℕ → Type 0) (ms ns : List ℕ) → ((n : ℕ) → Contains ns n → P n) → ((n : ℕ) → Contains ms n → P n)
    → (n : ℕ) → Contains (fold with_number ns ms) n → P n
all-only P ms ns old new = gathered (λ xs. (n : ℕ) → Contains xs n → P n) ms more ns old
  where
    more : (ks : List ℕ) (k : ℕ) → Contains ms k → has_number ks k ≡ false → ((n : ℕ) → Contains ks n → P n)
        → (n : ℕ) → Contains (ks ++ k ∷ []) n → P n
    more ks k here out facts n there =
        elim (Contains-push_cases ks k n there) [ inl was ↦ facts n was | inr same ↦ subst P same (new k here) ]

all-apart : (ms ns : List ℕ) → PairsByRecursion (λ a b. a ≢ b) ns
    → PairsByRecursion (λ a b. a ≢ b) (fold with_number ns ms)
all-apart ms = gathered (λ xs. PairsByRecursion (λ a b. a ≢ b) xs) ms (λ ks k here out apart. pairs-with ks k apart out)

-- they stand behind those that were there
all-behind : (ms ns : List ℕ) → (rest : List ℕ) × (fold with_number ns ms ≡ ns ++ rest)
all-behind ms ns =
    gathered (λ xs. (rest : List ℕ) × (xs ≡ ns ++ rest)) ms
    (λ ks k here out so. (so.0 ++ k ∷ [], ap (λ xs. xs ++ k ∷ []) so.1 ∙ append_assoc ns so.0 (k ∷ []))) ns
    ([], sym (append-nil ns))

all-length : (ms ns : List ℕ) → length ns ≤ length (fold with_number ns ms)
all-length ms ns = search (rules, all-behind ms ns, length-append ns)

-- so what stands at a place stays there
all-place : (ms ns : List ℕ) (k : ℕ) → k < length ns → slice_get (fold with_number ns ms) k ≡ slice_get ns k
all-place ms ns k less = ap (λ xs. slice_get xs k) (all-behind ms ns).1 ∙ front ns (all-behind ms ns).0 k less
  where
    front : (xs ys : List ℕ) (j : ℕ) → j < length xs → slice_get (xs ++ ys) j ≡ slice_get xs j
    front [] ys j less = absurd (omega (arith, less))
    front (x ∷ xs) ys zero less = refl
    front (x ∷ xs) ys (suc j) less = front xs ys j (omega (arith, less))

-- Loops

-- numbers of some lists, one list after another
pub fold-behind : (xs ys ns : List ℕ) → fold with_number ns (xs ++ ys) ≡ fold with_number (fold with_number ns xs) ys
fold-behind [] ys ns = refl
fold-behind (x ∷ xs) ys ns = fold-behind xs ys (with_number ns x)

-- while they are gathered: it is below each of them, it is among them, those right above the first ones are, and no
-- provider is among them twice
pub record IsReached (t : Topology Config) (prov : ℕ) (above : List ℕ) (next : ℕ) : Type 0 where
  pub sound_so_far : (p : ℕ) → Contains above p → Contains (below t p) prov
  pub first : Contains above prov
  pub closed : (k p : ℕ) → k < next → slice_get above k ≡ Some p → (y : ℕ) → Contains (users_of t p) y
      → Contains above y
  pub apart : PairsByRecursion (λ a b. a ≢ b) above
  pub among : (p : ℕ) → Contains above p → Contains (prov ∷ map (λ (x : Provider). x.number) t.providers) p
  pub far : next ≤ length above

-- so there are no more than providers, and one
pub reached-few : (t : Topology Config) (prov : ℕ) (above : List ℕ) (next : ℕ) → IsReached t prov above next
    → length above ≤ length t.providers + 1
reached-few t prov above next is =
    let few = no_more above (prov ∷ map (λ (x : Provider). x.number) t.providers) is.apart is.among in
    let many = length-map t.providers (λ (x : Provider). x.number) in
    omega (arith, few, many)

-- a place where nothing stands is past the end
pub past-of : (xs : List ℕ) (i : ℕ) → slice_get xs i ≡ None → length xs ≤ i
past-of [] i none = omega arith
past-of (x ∷ xs) zero never = absurd (cc)
past-of (x ∷ xs) (suc i) none = let rest = past-of xs i none in omega (arith, rest)

-- the next provider of a walk, put behind them
pub offers-next : (ps : List Provider) (ns now : List ℕ) (low after : ℕ) (x : Provider)
    → left_from (λ (y : Provider). y.number) low ps ≡ x ∷ left_from (λ (y : Provider). y.number) after ps
    → now ≡ with_number ns x.number
    → fold with_number now (map (λ (y : Provider). y.number) (left_from (λ (y : Provider). y.number) after ps))
    ≡ fold with_number ns (map (λ (y : Provider). y.number) (left_from (λ (y : Provider). y.number) low ps))
offers-next ps ns now low after x left is =
    ap (λ (xs : List ℕ). fold with_number xs
    (map (λ (y : Provider). y.number) (left_from (λ (y : Provider). y.number) after ps))) is
    ∙ sym (ap (λ (qs : List Provider). fold with_number ns (map (λ (y : Provider). y.number) qs)) left)

-- those of the geom of the next consumer
pub users-next : (t : Topology Config) (cs : List Consumer) (ns now : List ℕ) (low after : ℕ) (x : Consumer)
    → left_from (λ (y : Consumer). y.number) low cs ≡ x ∷ left_from (λ (y : Consumer). y.number) after cs
    → now ≡ fold with_number ns (offers_of t x.geom)
    → fold with_number now
    (flat_map (λ (d : Consumer). offers_of t d.geom) (left_from (λ (y : Consumer). y.number) after cs))
    ≡ fold with_number ns
    (flat_map (λ (d : Consumer). offers_of t d.geom) (left_from (λ (y : Consumer). y.number) low cs))
users-next t cs ns now low after x left is =
    let rest : List ℕ =
    flat_map (λ (d : Consumer). offers_of t d.geom) (left_from (λ (y : Consumer). y.number) after cs) in
    ap (λ (xs : List ℕ). fold with_number xs rest) is
    ∙ sym (fold-behind (offers_of t x.geom) rest ns)
    ∙ sym (ap (λ (ds : List Consumer). fold with_number ns (flat_map (λ (d : Consumer). offers_of t d.geom) ds)) left)

-- What is known of the graph

-- the walk is still at its beginning, or the graph is known to be sound
abbrev pub IsToldOf : Topology Config → ℕ → List ℕ → ℕ → Type 0
IsToldOf t prov above next = ((above ≡ prov ∷ []) × (next ≡ 0)) ⊎ IsSoundGraph t

-- at its end it is
pub told-at_end : (t : Topology Config) (prov : ℕ) (above : List ℕ) (next : ℕ) → IsToldOf t prov above next
    → length above ≤ next → IsSoundGraph t
told-at_end t prov above next (inl start) past = search (rules, ap length start.0)
told-at_end t prov above next (inr sound) past = sound

-- What is reached downwards

module _ (t : Topology Config) (sound : IsSoundGraph t) where
  -- the one provider is right under the other
  pub record IsUnder (y p : ℕ) : Type 0 where
    pub provider : Provider
    pub found : provider_at t y ≡ Some provider
    pub consumer : Consumer
    pub stands : Contains t.consumers consumer
    pub geom : consumer.geom ≡ provider.geom
    pub attached : consumer.provider ≡ Some p

  -- what is under the geom of a provider is under the provider
  under-of : (y p : ℕ) (x : Provider) → provider_at t y ≡ Some x → Contains (providers_under t x.geom) p → IsUnder y p
  under-of y p x found there =
      let o : Origin (λ (c : Consumer). c.provider ≡ Some p) (consumers_of t x.geom) =
      filter_map-Contains (λ (c : Consumer). c.provider) (consumers_of t x.geom) p there in
      search (
        rules,
        filter-Contains (λ (d : Consumer). d.geom == x.geom) t.consumers o.item o.stands,
        eqb-true o.item.geom x.geom,
      )

  -- a fact that goes down from each provider to those right under it holds of all that is reached
  least : (P : ℕ → Type 0) → ((y p : ℕ) → P y → IsUnder y p → P p) → (k y : ℕ) → P y → (z : ℕ)
      → Contains (below_within k t y) z → P z
  least P down zero y fact z there = subst P (alone y z there) fact
  least P down (suc k) y fact z there =
      elim (Contains-cases y z _ there) [
        | inl same ↦ subst P same fact
        | inr rest ↦ by (provider_at t y) refl rest (λ m is. least P down k m is z)
      ]
    where
      by : (o : Option Provider) → provider_at t y ≡ o
          → Contains (option_map_or (λ (x : Provider). flat_map (below_within k t) (providers_under t x.geom)) o []) z
          → ((m : ℕ) → P m → Contains (below_within k t m) z → P z) → P z
      by None e never deeper = absurd (nothing_in z never)
      by (Some x) e here deeper =
          search (rules, flat_map_cases (below_within k t) (providers_under t x.geom) z here, under-of y)

  -- what is right above a provider: it is right under them
  users-under : (p y : ℕ) → Contains (users_of t p) y → IsUnder y p
  users-under p y there =
      let c = flat_map_cases (λ (d : Consumer). offers_of t d.geom) (consumers_above t p) y there in
      let x : Origin (λ (z : Provider). z.number ≡ y) (providers_of t c.0.geom) =
      map-Contains (λ (z : Provider). z.number) (providers_of t c.0.geom) y c.2 in
      let own = filter-Contains (λ (z : Provider). z.geom == c.0.geom) t.providers x.item x.stands in
      let above = filter-Contains (λ (d : Consumer). not (d.geom == 1)) (attached_to t p) c.0 c.1 in
      let at = filter-Contains (λ (d : Consumer). names_number d.provider p) t.consumers c.0 above.0 in
      let each : EachIsFound Config = each-found in
      record {
        provider = x.item;
        found = subst (λ n. provider_at t n ≡ Some x.item) x.fact
            (at_contained (λ (z : Provider). provider_at t z.number ≡ Some z) t.providers x.item
            (each.providers t sound.orderly.order) own.0);
        consumer = c.0;
        stands = at.0;
        geom = sym (eqb-true x.item.geom c.0.geom own.1);
        attached = names_some c.0.provider p at.1;
      }

  -- and each under which it is right is among them
  under-users : (p y : ℕ) → IsUnder y p → Contains (users_of t p) y
  under-users p y is =
      search (
        rules,
        find-Contains (λ (z : Provider). z.number == y) t.providers is.provider is.found,
        All-contains (λ (z : Provider). IsOffer z) t.providers is.provider sound.orderly.offers,
        number_found (λ (z : Provider). z.number) t.providers y is.provider is.found,
        Contains-filter (λ (d : Consumer). names_number d.provider p) t.consumers is.consumer is.stands
            (ap (λ o. names_number o p) is.attached ∙ eq-eqb p p refl),
        Contains-filter (λ (d : Consumer). not (d.geom == 1)) (attached_to t p) is.consumer,
        ne_eqb is.consumer.geom 1,
        in_flat_map (λ (d : Consumer). offers_of t d.geom) (consumers_above t p) is.consumer y,
        Contains-map (λ (z : Provider). z.number) (providers_of t is.consumer.geom) is.provider,
        Contains-filter (λ (z : Provider). z.geom == is.consumer.geom) t.providers is.provider,
        eq-eqb is.provider.geom is.consumer.geom (sym is.geom),
      )

  -- below a provider stands what is below those right under it
  below-more : (p y z : ℕ) → IsUnder y p → Contains (below t p) z → Contains (below t y) z
  below-more p y z is there =
      least (λ n. Contains (below t y) n)
      (λ m n here under.
      below_closed t sound.ranked y m n under.consumer under.stands under.attached
      (subst (λ o. IsSomeAnd o (λ (x : Provider). x.geom ≡ under.consumer.geom)) (sym under.found) (sym under.geom))
      here)
      (length t.geoms) p
      (below_closed t sound.ranked y y p is.consumer is.stands is.attached
      (subst (λ o. IsSomeAnd o (λ (x : Provider). x.geom ≡ is.consumer.geom)) (sym is.found) (sym is.geom))
      (below_self (length t.geoms) t y))
      z there

  module _ (prov : ℕ) where
    pub reached-begin : IsReached t prov (prov ∷ []) 0
    reached-begin = record {
      sound_so_far = search (rules, alone prov, below_self (length t.geoms) t prov);
      first = Contains-here prov [];
      closed = λ k p less. absurd (omega (arith, less));
      apart = (tt, tt);
      among = search (rules, alone prov, Contains-here prov (map (λ (x : Provider). x.number) t.providers));
      far = omega arith;
    }

    pub reached-on : (above : List ℕ) (next found : ℕ) → IsReached t prov above next → slice_get above next ≡ Some found
        → IsReached t prov (fold with_number above (users_of t found)) (next + 1)
    reached-on above next found is at =
        let here : Contains above found = slot-contained above next found at in
        let within : next < length above = slice_get_within above next found at in
        record {
          sound_so_far =
              all-only (λ p. Contains (below t p) prov) (users_of t found) above is.sound_so_far
              (λ y user. below-more found y prov (users-under found y user) (is.sound_so_far found here));
          first = all-old (users_of t found) above prov is.first;
          closed = λ k p less place y user.
              let inside : k < length above = omega (arith, less, within) in
              let old : slice_get above k ≡ Some p = sym (all-place (users_of t found) above k inside) ∙ place in
              elim (cases_lt k next) [
                | inl before ↦ all-old (users_of t found) above y (is.closed k p before old y user)
                | inr past ↦
                    (let same : k ≡ next = omega (arith, less, past) in
                    let one : Some p ≡ Some found = sym old ∙ ap (slice_get above) same ∙ at in
                    let is_found : p ≡ found = cc in
                    all-new (users_of t found) above y (subst (λ n. Contains (users_of t n) y) is_found user))
              ];
          apart = all-apart (users_of t found) above is.apart;
          among =
              all-only (λ p. Contains (prov ∷ map (λ (x : Provider). x.number) t.providers) p) (users_of t found) above
              is.among
              (λ y user.
              Contains-there prov y (map (λ (x : Provider). x.number) t.providers)
              (provider-number y (users-under found y user)));
          far =
              let longer = all-length (users_of t found) above in
              omega (arith, longer, within);
        }
      where
        -- a provider that is right above one is there
        provider-number : (y : ℕ) → IsUnder y found
            → Contains (map (λ (x : Provider). x.number) t.providers) y
        provider-number y under =
            subst (λ n. Contains (map (λ (x : Provider). x.number) t.providers) n)
            (number_found (λ (z : Provider). z.number) t.providers y under.provider under.found)
            (Contains-map (λ (z : Provider). z.number) t.providers under.provider
            (find-Contains (λ (z : Provider). z.number == y) t.providers under.provider under.found))

    -- at the end they are all below which it is
    pub reached-end : (above : List ℕ) (next : ℕ) → IsReached t prov above next → length above ≤ next → (p : ℕ)
        → has_number above p ≡ is_below t prov p
    reached-end above next is past p = by (has_number above p) (is_below t prov p) refl refl
      where
        -- none that isn't among them leads down to one that is
        apart : (y m : ℕ) → has_number above y ≡ false → IsUnder y m → has_number above m ≡ false
        apart y m out under =
            false_from_ne_true (has_number above m)
            (λ inside.
            let place = contained-has above m inside in
            let less = place.1 in
            let there : Contains above y =
            is.closed place.0 m (omega (arith, less, past))
            (slice_get_read above (length above) place.0 m refl less (sym place.2)) y (under-users m y under) in
            let never : true ≡ false = sym (contains-has above y there) ∙ out in cc)

        by : (a b : Bool) → has_number above p ≡ a → is_below t prov p ≡ b → a ≡ b
        by true true e f = refl
        by false false e f = refl
        by true false e f = search (rules, contains-has (below t p) prov (is.sound_so_far p (contained-has above p e)))
        by false true e f =
            let out : has_number above prov ≡ false =
            least (λ n. has_number above n ≡ false) (λ y m out under. apart y m out under) (length t.geoms) p e prov
            (contained-has (below t p) prov f) in
            let never : true ≡ false = sym (contains-has above prov is.first) ∙ out in absurd (cc)

-- Whether a bio goes to one of some providers, by the first that does

-- where the first that passes is none, none passes
pub none-passes : (test : BioOf Held → Bool) (bios : List (BioOf Held)) → first_passing test bios 0 ≡ None
    → false ≡ list_any test bios
none-passes test [] none = refl
none-passes test (x ∷ xs) none =
    search (rules, cases_Bool (test x), Some x.number, le-leb 0 x.number (omega arith), none-passes test xs)

-- where there is a first, one does
one-passes : (test : BioOf Held → Bool) (bios : List (BioOf Held)) (b : ℕ) → first_passing test bios 0 ≡ Some b
    → true ≡ list_any test bios
one-passes test [] b never = absurd (cc)
one-passes test (x ∷ xs) b one =
    search (rules, cases_Bool (test x), Some b, le-leb 0 x.number (omega arith), one-passes test xs b)

-- a walk over the bios that came to one, the first from a number on
module _ {t : BioTableView} (order : AreInOrder t) (low : ℕ) {b : ℕ} (first : bio_from t.bios low ≡ Some b) where
  -- its number isn't below that, and is below that of the next new one
  pub walk-between : (low ≤ b) × (b < t.next)
  walk-between =
      let there = reached_there (λ p. true) low b t.bios (table_rises t order) first in
      (reached_above (λ p. true) low b t.bios first, number_below t order b there.0 there.1)

  -- where it passes, one does
  pub walk-passes : (test : BioOf Held → Bool) → first_passing test t.bios low ≡ first_passing test t.bios 0
      → passes test t.bios b ≡ true → true ≡ list_any test t.bios
  walk-passes test so_far hits =
      one-passes test t.bios b (sym so_far ∙ walk_hits test low b t.bios (table_rises t order) first hits)

  -- where it doesn't, the first that passes is behind it
  pub walk-fails : (test : BioOf Held → Bool) → first_passing test t.bios low ≡ first_passing test t.bios 0
      → passes test t.bios b ≡ false → (n : ℕ) → n ≡ b
      → first_passing test t.bios (n + 1) ≡ first_passing test t.bios 0
  walk-fails test so_far fails n is =
      ap (λ m. first_passing test t.bios (m + 1)) is
      ∙ walk_goes_on test low b t.bios (table_rises t order) first fails ∙ so_far

-- those that are reached upwards are those below which the provider is
module _ (t : Topology Config) (prov : ℕ) (above : List ℕ)
    (reached : (p : ℕ) → has_number above p ≡ is_below t prov p) where
  -- so for the bios
  pub asked-is : (log : ℕ → Option (List ℕ)) (bios : List (BioOf Held))
      → list_any (λ (x : BioOf Held). has_number above x.target) bios
      ≡ list_any (λ (x : Bio). is_below t prov x.target) (shown_bios log bios)
  asked-is log [] = refl
  asked-is log (x ∷ xs) = λ i. reached x.target i || asked-is log xs i

  -- and for the taste
  pub tasted-is : (o : Option Taste)
      → option_map_or (λ (s : Taste). has_number above s.provider) o false
      ≡ option_map_or (λ (s : Taste). is_below t prov s.provider) o false
  tasted-is None = refl
  tasted-is (Some s) = reached s.provider

-- so whether growth is busy
pub busy-is : (s : State) (prov : ℕ) (above : List ℕ)
    → ((p : ℕ) → has_number above p ≡ is_below s.topo.topology prov p) → (a b : Bool)
    → a ≡ list_any (λ (x : BioOf Held). has_number above x.target) s.traffic.bios
    → b ≡ option_map_or (λ (x : Taste). has_number above x.provider) s.taste false
    → (actors : List (List LineCommand)) (log : List Entry) → (a || b) ≡ is_growth_busy (world actors log s) prov
busy-is s prov above reached a b asked tasted actors log =
    λ i. (asked ∙ asked-is s.topo.topology prov above reached (delivered_at log) s.traffic.bios) i
    || (tasted ∙ tasted-is s.topo.topology prov above reached s.taste) i
