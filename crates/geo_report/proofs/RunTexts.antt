-- The texts of no bytes, and of one run.
use Rattle.std.proofs.Common.{◌≡◌, ℕ, ◌-◌, ◌≤◌, ◌==◌, Bool, true, false, ◌&&◌, List, [], ◌∷◌, ◌++◌, length, replicate, take, drop, get_or, refl, sym, ap, ◌∙◌, eq-eqb, arith}
use Rattle.std.specs.Prelude.{bytes_eq}
use Rattle.std.proofs.lemmas.Bool.Decides.{nat_tests}
use Rattle.std.proofs.lemmas.Slice.Eq.{bytes_eq-Decides}
use Rattle.std.proofs.lemmas.List.{append-nil, take_all}
use Rattle.geo_base.specs.Runs.{run_text, runs_text}
use Rattle.geo_base.proofs.RunsLemmas.{runs_one}

-- no byte, no text
pub no_runs : (text bytes : List ℕ) → length bytes ≡ 0 → text ≡ text ++ runs_text bytes
unfolding runs_text
no_runs text [] none = sym (append-nil text)
no_runs text (b ∷ bytes) none = absurd (omega (arith, none))

-- bytes behind a first are all the first exactly if each is the one before it
alike : (b : ℕ) (bs : List ℕ) → bytes_eq bs (take (length bs) (b ∷ bs)) ≡ bytes_eq bs (replicate (length bs) b)
alike b [] = refl
alike b (c ∷ cs) = into (c == b) refl (alike c cs)
  where
    into : (t : Bool) → (c == b) ≡ t
        → bytes_eq cs (take (length cs) (c ∷ cs)) ≡ bytes_eq cs (replicate (length cs) c)
        → (t && bytes_eq cs (take (length cs) (c ∷ cs))) ≡ (t && bytes_eq cs (replicate (length cs) b))
    into true e on =
        let same : c ≡ b = grind (arith, nat_tests, e) in
        on ∙ ap (λ x. bytes_eq cs (replicate (length cs) x)) same
    into false e on = refl

-- the bytes behind the first
abbrev behind : List ℕ → List ℕ
behind bytes = take (length bytes - 1) (drop 1 bytes)

-- they are the bytes but the last exactly if all are the first
pub is_one : (bytes : List ℕ) → 1 ≤ length bytes
    → bytes_eq (behind bytes) (take (length (behind bytes)) bytes)
    ≡ bytes_eq bytes (replicate (length bytes) (get_or bytes 0 0))
is_one [] some = absurd (omega (arith, some))
is_one (b ∷ bs) some =
    let all : take (length (b ∷ bs) - 1) bs ≡ bs = take_all (length (b ∷ bs) - 1) bs (omega arith) in
    rw all (alike b bs ∙ rw (eq-eqb b b refl) refl)

-- the text of one byte, so many times
pub one_run : (text bytes : List ℕ) → 1 ≤ length bytes
    → bytes_eq bytes (replicate (length bytes) (get_or bytes 0 0)) ≡ true
    → text ++ run_text (record { byte = get_or bytes 0 0; times = length bytes }) ≡ text ++ runs_text bytes
one_run text bytes some same =
    let b = get_or bytes 0 0 in
    ap (λ l. text ++ l)
    (sym (runs_one b (length bytes) some) ∙ ap runs_text (sym ((bytes_eq-Decides _ _).0 same)))
