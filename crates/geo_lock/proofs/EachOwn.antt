-- The whole log, by the numbers of the passes.
use Rattle.std.proofs.Common.{◌≡◌, ℕ, zero, suc, List, [], ◌∷◌, filter, eqb, Bool, true, false, All, Any, Contains, slice_index_or, sym, refl, ap, ◌∙◌, subst, arith, eq-eqb}
use Rattle.std.proofs.lemmas.List.Elements.{All-contains, Contains-get_or}
use Rattle.geo_lock.specs.Logged.{entries_with_seat}
use Rattle.geo_lock.specs.Pass.{PassView, IsGoodIn}
use Rattle.geo_lock.specs.Whole.{EachIsOwn}

-- what stands in a list and passes a test stands in what the test leaves of it
pub contains_filter : {X : Type 0} (test : X → Bool) (xs : List X) (x : X) → test x ≡ true → Contains xs x
    → Contains (filter test xs) x
contains_filter test [] x pass here = absurd (omega (arith, here.1))
contains_filter test (y ∷ ys) x pass (zero, lt, is) = rw (ap test is ∙ pass) (0, omega arith, is)
contains_filter test (y ∷ ys) x pass (suc k, lt, is) =
    by (test y) refl (contains_filter test ys x pass (k, omega arith, is))
  where
    by : (c : Bool) → test y ≡ c → Contains (filter test ys) x → Contains (filter test (y ∷ ys)) x
    by true e rest = rw e (suc rest.0, omega (arith, rest.1), rest.2)
    by false e rest = rw e rest

-- each entry is an own entry of the pass of its number
pub each_is_own : {B E : Type 0} (of : E → ℕ) → EachIsOwn B E of
each_is_own {B} {E} of ps log good numbers k d lt =
    let e : E = slice_index_or log k d in
    let here : Contains log e = Contains-get_or log k d lt in
    let some : Any (λ (p : PassView B E). p.number ≡ of e) ps =
    All-contains (λ (x : E). Any (λ (p : PassView B E). p.number ≡ of x) ps) log e numbers here in
    let p : PassView B E = some.1 in
    let its : IsGoodIn of p log =
    All-contains (λ (q : PassView B E). IsGoodIn of q log) ps p good (some.0, some.2, some.3) in
    let mine : Contains p.own e =
    subst (λ l. Contains l e) its.own
    (subst (λ n. Contains (entries_with_seat of n log) e) (sym some.4)
    (contains_filter (λ (x : E). eqb (of x) (of e)) log e (eq-eqb (of e) (of e) refl) here)) in
    (some.0, some.1, some.2, some.3, (some.4, mine))

-- so what holds of the own entries of each pass, by its number, holds of each entry of the log, by its seat
pub each_own : {B E : Type 0} (of : E → ℕ) (P : ℕ → E → Type 0) (ps : List (PassView B E)) (log : List E)
    → All (λ p. IsGoodIn of p log) ps → All (λ e. Any (λ p. p.number ≡ of e) ps) log
    → All (λ p. All (P p.number) p.own) ps → All (λ e. P (of e) e) log
each_own {B} {E} of P ps log good numbers own k d lt =
    let e : E = slice_index_or log k d in
    let some : Any (λ (p : PassView B E). (p.number ≡ of e) × Contains p.own e) ps =
    All-contains (λ (x : E). Any (λ (p : PassView B E). (p.number ≡ of x) × Contains p.own x) ps) log e
    (each_is_own of ps log good numbers) (Contains-get_or log k d lt) in
    let p : PassView B E = some.1 in
    subst (λ n. P n e) some.4.0
    (All-contains (P p.number) p.own e
    (All-contains (λ (q : PassView B E). All (P q.number) q.own) ps p own (some.0, some.2, some.3)) some.4.1)
