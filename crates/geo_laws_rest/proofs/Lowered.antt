-- The six numbers of the measure, compared from the first on; sums of which items change; what tasting may cost.
use Rattle.std.specs.Prelude.{◌≡◌, ℕ, ◌+◌, ◌*◌, ◌<◌, ◌≤◌, ◌==◌, nat_lt, not, ◌&&◌, ◌||◌, Bool, length, sum_by, count_by, is_some, IsTrue, false, List, [], ◌∷◌, map, filter, Contains, zero, suc, ◌-◌, true, find, Option, Some, None, option_and_then, option_map, ◌≢◌}
use Rattle.std.proofs.Common.{inl, inr, refl, arith, ap, ◌∙◌, sym, subst}
use Rattle.std.proofs.lemmas.Bool.{lt-ltb, eq-eqb, cases_lt, or_right, not_from_false, or_parts}
use Rattle.std.specs.List.{AllByRecursion, list_any}
use Rattle.std.proofs.lemmas.List.Sums.{sum_by-cons, get_or-le-sum_by}
use Rattle.std.proofs.lemmas.List.Filters.{sum_by-filter_both, length-filter_both}
use Rattle.std.specs.Option.{option_map_or}
use Rattle.std.proofs.Math.Nat.{mul-le-mul_left, add-zero}
use Rattle.geo_base.proofs.AllLists.{all_kept}
use Rattle.geo_base.specs.declared.limits.TheConstants.{UNTASTED_RANK}
use Rattle.geo_model.specs.World.{World, Config, Taste}
use Rattle.geo_model.specs.Order.{IsLess, measure, event_weight, taste_left, is_loss, steps_left, taste_weight_below, taste_weight, rank_of_provider, makes_left, can_make}
use Rattle.geo_model.specs.declared.step.Event.{Event}
use Rattle.geo_model.specs.declared.step.Event.TheVariants as events
use Rattle.geo_model.specs.Words.{change_where}
use Rattle.geo_model.specs.Topology.{Topology, Geom, Provider, Consumer, geom_at, provider_at, geom_of_provider, set_error, set_withering, set_marks, note_started, providers_of}
use Rattle.geo_model.specs.Rank.{rank}
use Rattle.geo_model.specs.Laws.{is_offer}
use Rattle.geo_laws_graph.proofs.Members.{Contains-cases, nothing_in, Contains-filter, find-Contains}
use Rattle.geo_laws_graph.proofs.Lists.{changed, changed-keeps, find-changed}
use Rattle.geo_laws_graph.proofs.RankChanges.{plain-stay}
use Rattle.geo_laws_graph.proofs.Numbered.{number_found}

-- a smaller number decides
first_less : (m n : ℕ) (rest : Bool) → m < n → IsTrue (nat_lt m n || ((m == n) && rest))
first_less m n rest less = rw (lt-ltb m n less) refl

-- at a number that is no greater, the rest may decide
rest_less : (m n : ℕ) (rest : Bool) → m ≤ n → IsTrue rest → IsTrue (nat_lt m n || ((m == n) && rest))
rest_less m n rest most so = elim (cases_lt m n) [
  | inl less ↦ first_less m n rest less
  | inr least ↦
      let same : m ≡ n = omega arith in
      or_right (nat_lt m n) ((m == n) && rest) (rw (eq-eqb m n same) so)
]

-- commands that are left
abbrev pub commands_of : World → ℕ
commands_of w = sum_by (λ rest. length rest) w.actors

-- handles that aren't reaped
abbrev pub handles_of : World → ℕ
handles_of w = count_by (λ h. is_some h.consumer) w.handles

-- what tasting may still cost
abbrev pub tasting_of : World → ℕ
tasting_of w = sum_by (event_weight w) w.events + taste_left w w.taste

-- errors to come, and the events of losses
abbrev pub losses_of : World → ℕ
losses_of w = 2 * count_by (λ p. not p.errored) w.topology.providers + count_by is_loss w.events

-- steps that bios still need
abbrev pub bio_steps_of : World → ℕ
bio_steps_of w = sum_by (λ x. steps_left w x x.phase) w.bios

-- geoms, providers and consumers
abbrev pub parts_of : World → ℕ
parts_of w = length w.topology.geoms + length w.topology.providers + length w.topology.consumers

module _ (v w : World) where
  -- fewer commands
  pub commands_less : commands_of v < commands_of w → IsLess (measure v) (measure w)
  unfolding measure
  commands_less less = first_less (commands_of v) (commands_of w) _ less

  -- fewer handles
  pub handles_less : commands_of v ≤ commands_of w → handles_of v < handles_of w → IsLess (measure v) (measure w)
  unfolding measure
  handles_less a less = rest_less _ _ _ a (first_less _ _ _ less)

  -- less tasting
  pub tasting_less : commands_of v ≤ commands_of w → handles_of v ≤ handles_of w → tasting_of v < tasting_of w
      → IsLess (measure v) (measure w)
  unfolding measure
  tasting_less a b less = rest_less _ _ _ a (rest_less _ _ _ b (first_less _ _ _ less))

  -- fewer losses
  pub losses_less : commands_of v ≤ commands_of w → handles_of v ≤ handles_of w → tasting_of v ≤ tasting_of w
      → losses_of v < losses_of w → IsLess (measure v) (measure w)
  unfolding measure
  losses_less a b c less = rest_less _ _ _ a (rest_less _ _ _ b (rest_less _ _ _ c (first_less _ _ _ less)))

  -- fewer steps of bios
  pub bios_less : commands_of v ≤ commands_of w → handles_of v ≤ handles_of w → tasting_of v ≤ tasting_of w
      → losses_of v ≤ losses_of w → bio_steps_of v < bio_steps_of w → IsLess (measure v) (measure w)
  unfolding measure
  bios_less a b c d less =
      rest_less _ _ _ a (rest_less _ _ _ b (rest_less _ _ _ c (rest_less _ _ _ d (first_less _ _ _ less))))

  -- fewer parts
  pub parts_less : commands_of v ≤ commands_of w → handles_of v ≤ handles_of w → tasting_of v ≤ tasting_of w
      → losses_of v ≤ losses_of w → bio_steps_of v ≤ bio_steps_of w → parts_of v < parts_of w
      → IsLess (measure v) (measure w)
  unfolding measure
  parts_less a b c d e less =
      rest_less _ _ _ a
      (rest_less _ _ _ b (rest_less _ _ _ c (rest_less _ _ _ d (rest_less _ _ _ e (first_less _ _ _ less)))))

-- Sums over lists of which items are changed or left out.

-- a sum of terms that are no greater is no greater
pub sum_most : {X : Type 0} (f g : X → ℕ) (xs : List X) → AllByRecursion (λ x. f x ≤ g x) xs
    → sum_by f xs ≤ sum_by g xs
sum_most f g [] most = omega arith
sum_most f g (x ∷ xs) most =
    omega (arith, sum_by-cons f x xs, sum_by-cons g x xs, most.0, sum_most f g xs most.1)

-- so over items that another function makes of these
pub sum_mapped : {X Y : Type 0} (h : X → Y) (f : Y → ℕ) (g : X → ℕ) (xs : List X)
    → AllByRecursion (λ x. f (h x) ≤ g x) xs → sum_by f (map h xs) ≤ sum_by g xs
sum_mapped h f g [] most = omega arith
sum_mapped h f g (x ∷ xs) most =
    omega (
      arith,
      sum_by-cons f (h x) (map h xs),
      sum_by-cons g x xs,
      most.0,
      sum_mapped h f g xs most.1,
    )

module _ {X : Type 0} (f g : X → ℕ) where
  -- one item that falls lets the sum fall as much
  pub sum_mapped-falls : (h : X → X) (xs : List X) (x : X) (d : ℕ) → AllByRecursion (λ y. f (h y) ≤ g y) xs
      → Contains xs x → f (h x) + d ≤ g x → sum_by f (map h xs) + d ≤ sum_by g xs
  sum_mapped-falls h [] x d most here falls = absurd (nothing_in x here)
  sum_mapped-falls h (y ∷ ys) x d most here falls =
      elim (Contains-cases y x ys here) [
        | inl same ↦
            let fall : f (h y) + d ≤ g y = rw same falls in
            omega (
              arith,
              sum_by-cons f (h y) (map h ys),
              sum_by-cons g y ys,
              fall,
              sum_mapped h f g ys most.1,
            )
        | inr rest ↦
            omega (
              arith,
              sum_by-cons f (h y) (map h ys),
              sum_by-cons g y ys,
              most.0,
              sum_mapped-falls h ys x d most.1 rest falls,
            )
      ]

  -- a sum over the items that are kept is no greater
  pub sum_kept : (keep : X → Bool) (xs : List X) → AllByRecursion (λ x. f x ≤ g x) xs
      → sum_by f (filter keep xs) ≤ sum_by g xs
  sum_kept keep xs most =
      omega (
        arith,
        sum_most f g (filter keep xs) (all_kept (λ x. f x ≤ g x) keep xs most),
        sum_by-filter_both keep (λ x. not (keep x)) (λ x. refl) g xs,
      )

  -- and smaller by one that is left out
  pub sum_left_out : (keep : X → Bool) (xs : List X) (x : X) → AllByRecursion (λ y. f y ≤ g y) xs → Contains xs x
      → keep x ≡ false → sum_by f (filter keep xs) + g x ≤ sum_by g xs
  sum_left_out keep xs x most here out =
      let left : List X = filter (λ y. not (keep y)) xs in
      let gone = Contains-filter (λ y. not (keep y)) xs x here (not_from_false (keep x) out) in
      omega (
        arith,
        sum_most f g (filter keep xs) (all_kept (λ y. f y ≤ g y) keep xs most),
        ap g gone.2,
        get_or-le-sum_by g left gone.0 x gone.1,
        sum_by-filter_both keep (λ y. not (keep y)) (λ y. refl) g xs,
      )

-- What tasting may cost, by the ranks of geoms.

-- Weights

-- a cost is something
pub weight_some : (levels : ℕ) → 1 ≤ taste_weight_below levels
weight_some zero = omega arith
weight_some (suc levels) = omega arith

-- more levels cost no less
weight_most : (m n : ℕ) → m ≤ n → taste_weight_below m ≤ taste_weight_below n
weight_most zero n most = weight_some n
weight_most (suc m) zero most = absurd (omega arith)
weight_most (suc m) (suc n) most = let less = weight_most m n (omega arith) in omega (arith, less)

-- a higher rank costs no more
pub rank_weight : (r s : ℕ) → r ≤ s → taste_weight s ≤ taste_weight r
rank_weight r s most = weight_most (UNTASTED_RANK - s) (UNTASTED_RANK - r) (omega arith)

-- Ranks that stay

-- the number of the geom of a provider
abbrev pub number_of : Topology Config → ℕ → Option ℕ
number_of t p = option_map (λ g. g.number) (geom_of_provider t p)

-- providers stay with their geoms, and ranks stay
pub record KeepsRanks (t u : Topology Config) : Type 0 where
  pub number : (p : ℕ) → number_of u p ≡ number_of t p
  pub rank : (g : ℕ) → rank u g ≡ rank t g

-- twice
pub keeps_twice : (t u v : Topology Config) → KeepsRanks t u → KeepsRanks u v → KeepsRanks t v
keeps_twice t u v one two =
    record { number = λ p. two.number p ∙ one.number p; rank = λ g. two.rank g ∙ one.rank g }

-- none changes
pub same_ranks : (t : Topology Config) → KeepsRanks t t
same_ranks t = record { number = λ p. refl; rank = λ g. refl }

-- the rank of what is found, by its number
rank_found : (f g : ℕ → ℕ) → ((n : ℕ) → f n ≡ g n) → (a b : Option (Geom Config))
    → option_map (λ (x : Geom Config). x.number) a ≡ option_map (λ (x : Geom Config). x.number) b
    → option_map_or (λ (x : Geom Config). f x.number) a UNTASTED_RANK
    ≡ option_map_or (λ (x : Geom Config). g x.number) b UNTASTED_RANK
rank_found f g so None None same = refl
rank_found f g so None (Some y) same = absurd cc
rank_found f g so (Some x) None same = absurd cc
rank_found f g so (Some x) (Some y) same = let number : x.number ≡ y.number = cc in so x.number ∙ ap g number

-- the rank of a provider's geom stays
pub rank_same : (v w : World) → KeepsRanks w.topology v.topology → (p : ℕ)
    → rank_of_provider v p ≡ rank_of_provider w p
rank_same v w keeps p =
    rank_found (rank v.topology) (rank w.topology) keeps.rank (geom_of_provider v.topology p)
    (geom_of_provider w.topology p) (keeps.number p)

-- the cost of an event stays
weight_same : (v w : World) → ((p : ℕ) → rank_of_provider v p ≡ rank_of_provider w p) → (e : Event)
    → event_weight v e ≡ event_weight w e
weight_same v w same (events.NewProvider p) = ap taste_weight (same p)
weight_same v w same (events.Resize p) = ap (λ (r : ℕ). 1 + taste_weight r) (same p)
weight_same v w same _ = refl

-- so for a queue
pub weights_same : (v w : World) → ((p : ℕ) → rank_of_provider v p ≡ rank_of_provider w p) → (es : List Event)
    → sum_by (event_weight v) es ≡ sum_by (event_weight w) es
weights_same v w same [] = refl
weights_same v w same (e ∷ es) =
    omega (
      arith,
      sum_by-cons (event_weight v) e es,
      sum_by-cons (event_weight w) e es,
      weight_same v w same e,
      weights_same v w same es,
    )

-- so for a taste
pub left_same : (v w : World) → ((p : ℕ) → rank_of_provider v p ≡ rank_of_provider w p) → (o : Option Taste)
    → taste_left v o ≡ taste_left w o
left_same v w same None = refl
left_same v w same (Some s) = rw (same s.provider) refl

-- with the same queue and taste tasting costs the same
pub tasting_same : (v w : World) → KeepsRanks w.topology v.topology → v.events ≡ w.events → v.taste ≡ w.taste
    → tasting_of v ≡ tasting_of w
tasting_same v w keeps queue taste =
    let one : sum_by (event_weight v) v.events ≡ sum_by (event_weight w) w.events =
    weights_same v w (rank_same v w keeps) v.events ∙ ap (sum_by (event_weight w)) queue in
    let two : taste_left v v.taste ≡ taste_left w w.taste =
    left_same v w (rank_same v w keeps) v.taste ∙ ap (taste_left w) taste in
    omega (arith, one, two)

-- Changes of one thing

module _ (t : Topology Config) where
  module _ (hit : Geom Config → Bool) (change : Geom Config → Geom Config)
      (same : (x : Geom Config) → (change x).number ≡ x.number) where
    -- the number of what is found
    number_changed : (o : Option (Geom Config))
        → option_map (λ (x : Geom Config). x.number) (option_map (changed hit change) o)
        ≡ option_map (λ (x : Geom Config). x.number) o
    number_changed None = refl
    number_changed (Some x) = ap (λ (n : ℕ). Some n) (changed-keeps hit change (λ y. y.number) (λ y e. same y) x)

    -- by the provider
    number_at : (o : Option Provider)
        → option_map (λ (x : Geom Config). x.number)
        (option_and_then (λ x. find (λ (y : Geom Config). y.number == x.geom) (change_where hit change t.geoms)) o)
        ≡ option_map (λ (x : Geom Config). x.number) (option_and_then (λ x. geom_at t x.geom) o)
    number_at None = refl
    number_at (Some x) =
        ap (option_map (λ (y : Geom Config). y.number))
        (find-changed hit change (λ y. y.number == x.geom) (λ y e. ap (λ n. n == x.geom) (same y)) t.geoms)
        ∙ number_changed (geom_at t x.geom)

    -- geoms that keep their numbers
    pub geoms_number : (p : ℕ) → number_of (record t { geoms = change_where hit change t.geoms }) p ≡ number_of t p
    geoms_number p = number_at (provider_at t p)

  -- a provider that gets an error
  errored_number : (n p : ℕ) → number_of (set_error t n) p ≡ number_of t p
  errored_number n p =
      ap (λ (o : Option Provider).
      option_map (λ (g : Geom Config). g.number) (option_and_then (λ (x : Provider). geom_at t x.geom) o))
      (find-changed (λ (x : Provider). x.number == n) (λ x. record x { errored = true }) (λ x. x.number == p)
      (λ x e. refl) t.providers)
      ∙ by (provider_at t p) where
        -- by the provider
        by : (o : Option Provider)
            → option_map (λ (g : Geom Config). g.number) (option_and_then (λ (x : Provider). geom_at t x.geom)
            (option_map (changed (λ (x : Provider). x.number == n) (λ x. record x { errored = true })) o))
            ≡ option_map (λ (g : Geom Config). g.number) (option_and_then (λ (x : Provider). geom_at t x.geom) o)
        by None = refl
        by (Some x) =
            ap (λ (m : ℕ). option_map (λ (g : Geom Config). g.number) (geom_at t m))
            (changed-keeps (λ (y : Provider). y.number == n) (λ y. record y { errored = true })
            (λ y. y.geom) (λ y e. refl) x)

  -- an error
  pub errored_ranks : (n : ℕ) → KeepsRanks t (set_error t n)
  errored_ranks n = record { number = errored_number n; rank = (plain-stay.error t n).same }

  -- a geom that withers
  pub withering_ranks : (n : ℕ) → KeepsRanks t (set_withering t n)
  withering_ranks n = record {
    number = geoms_number (λ x. x.number == n) (λ x. record x { withering = true }) (λ x. refl);
    rank = (plain-stay.withering t n).same;
  }

  -- marks
  pub marked_ranks : (test : Consumer → Bool) (mark : Bool) → KeepsRanks t (set_marks t test mark)
  marked_ranks test mark = record { number = λ p. refl; rank = (plain-stay.marks t test mark).same }

  -- a request that is started
  pub started_ranks : (n : ℕ) → KeepsRanks t (note_started t n)
  started_ranks n = record {
    number = geoms_number (λ x. x.number == n) (λ x. record x { started = x.started + 1 }) (λ x. refl);
    rank = (plain-stay.started t n).same;
  }

-- What tasting may cost where a rank changes of a geom that offers nothing, and where providers go.

-- the rank of a geom that is found
rank_by : (f h : ℕ → ℕ) (o : Option (Geom Config)) → ((g : Geom Config) → o ≡ Some g → f g.number ≡ h g.number)
    → option_map_or (λ (g : Geom Config). f g.number) o UNTASTED_RANK
    ≡ option_map_or (λ (g : Geom Config). h g.number) o UNTASTED_RANK
rank_by f h None so = refl
rank_by f h (Some g) so = so g refl

-- where a provider's geom is found as before, and its rank stays, the provider's rank stays
pub rank_stays : (v w : World) (q : ℕ) → geom_of_provider v.topology q ≡ geom_of_provider w.topology q
    → ((g : Geom Config) → geom_of_provider w.topology q ≡ Some g → rank v.topology g.number ≡ rank w.topology g.number)
    → rank_of_provider v q ≡ rank_of_provider w q
rank_stays v w q geoms ranks =
    ap (λ (o : Option (Geom Config)). option_map_or (λ (g : Geom Config). rank v.topology g.number) o UNTASTED_RANK)
    geoms
    ∙ rank_by (rank v.topology) (rank w.topology) (geom_of_provider w.topology q) ranks

-- the geom of a provider isn't one that offers nothing
offers_by : (t : Topology Config) (n q : ℕ) → providers_of t n ≡ [] → (o : Option Provider) → provider_at t q ≡ o
    → (g : Geom Config) → option_and_then (λ x. geom_at t x.geom) o ≡ Some g → g.number ≢ n
offers_by t n q none None e g at same = absurd cc
offers_by t n q none (Some x) e g at same =
    let number : g.number ≡ x.geom = number_found (λ (y : Geom Config). y.number) t.geoms x.geom g at in
    nothing_in x
    (subst (λ (ys : List Provider). Contains ys x) none
    (Contains-filter (λ (y : Provider). y.geom == n) t.providers x
    (find-Contains (λ (y : Provider). y.number == q) t.providers x e)
    (eq-eqb x.geom n (sym number ∙ same))))

-- where ranks change at most of a geom that offers nothing, those of providers' geoms stay
pub elsewhere : (v w : World) (n : ℕ) → providers_of w.topology n ≡ []
    → ((q : ℕ) → geom_of_provider v.topology q ≡ geom_of_provider w.topology q)
    → ((g : ℕ) → g ≢ n → rank v.topology g ≡ rank w.topology g) → (q : ℕ)
    → rank_of_provider v q ≡ rank_of_provider w q
elsewhere v w n none geoms ranks q =
    rank_stays v w q (geoms q) (λ g at.
    ranks g.number (offers_by w.topology n q none (provider_at w.topology q) refl g at))

-- No more costs

-- each provider's taste costs no more
abbrev pub Cheaper : World → World → Type 0
Cheaper v w = (q d : ℕ) → taste_weight (rank_of_provider v q + d) ≤ taste_weight (rank_of_provider w q + d)

-- then each offer costs no more
offer_most : (v w : World) → Cheaper v w → (q : ℕ) → taste_weight (rank_of_provider v q) ≤ taste_weight
    (rank_of_provider w q)
offer_most v w cheaper q =
    rw (add-zero (rank_of_provider v q), add-zero (rank_of_provider w q)) at (cheaper q 0)

-- and so does each event
pub event_most : (v w : World) → Cheaper v w → (e : Event) → event_weight v e ≤ event_weight w e
event_most v w cheaper (events.NewProvider p) = offer_most v w cheaper p
event_most v w cheaper (events.Resize p) = let less = offer_most v w cheaper p in omega (arith, less)
event_most v w cheaper _ = omega arith

-- and so does a taste
pub left_most : (v w : World) → Cheaper v w → (o : Option Taste) → taste_left v o ≤ taste_left w o
left_most v w cheaper None = omega arith
left_most v w cheaper (Some s) =
    let times = mul-le-mul_left (makes_left s.asked + sum_by can_make s.classes) (cheaper s.provider 1) in
    omega (arith, times)

-- what isn't an offer costs nothing
no_offer : (v : World) (e : Event) → is_offer e ≡ false → event_weight v e ≡ 0
no_offer v (events.NewProvider p) none = absurd cc
no_offer v (events.Resize p) none = absurd cc
no_offer v _ none = refl

-- without offers a queue costs nothing
pub no_offers : (v : World) (es : List Event) → list_any is_offer es ≡ false → sum_by (event_weight v) es ≡ 0
no_offers v [] none = refl
no_offers v (e ∷ es) none =
    omega (
      arith,
      sum_by-cons (event_weight v) e es,
      no_offer v e (or_parts (is_offer e) (list_any is_offer es) none).0,
      no_offers v es (or_parts (is_offer e) (list_any is_offer es) none).1,
    )

-- Lengths

-- a list is shorter where one is left out
pub left_out_length : {X : Type 0} (keep : X → Bool) (xs : List X) (x : X) → Contains xs x → keep x ≡ false
    → length (filter keep xs) < length xs
left_out_length keep xs x here out =
    let gone = Contains-filter (λ y. not (keep y)) xs x here (not_from_false (keep x) out) in
    omega (arith, gone.1, length-filter_both keep (λ y. not (keep y)) (λ y. refl) xs)
