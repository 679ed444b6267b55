-- A reader of runs takes each text of runs whole.
use Rattle.std.proofs.Common.{◌≡◌, ℕ, ◌+◌, ◌-◌, ◌*◌, ◌/◌, ◌%◌, ◌^◌, ◌<◌, ◌≤◌, ◌==◌, ◌&&◌, nat_lt, nat_le, Bool, true, false, List, [], ◌∷◌, ◌++◌, length, replicate, refl, sym, ◌∙◌, ap, arith, append_assoc, append-nil, Option, Some, None, decimal, length-append, subst}
use Rattle.std.specs.List.{AllByRecursion}
use Rattle.std.proofs.lemmas.Bool.Decides.{nat_tests}
use Rattle.std.proofs.lemmas.Fmt.{decimal_by_steps}
use Rattle.std.proofs.lemmas.List.{length-replicate, replicate-append-replicate}
use Rattle.std.proofs.lemmas.List.Elements.{recursion_from_All}
use Rattle.geo_base.specs.Runs.{hex_digit, run_text, IsRuns}
use Rattle.geo_base.specs.RunsReader.{Reading, last_of, high_place, byte_place, times_place, inside_run, ended_run, read_one_more}
use Rattle.geo_base.specs.declared.runs.Place.{Place}
use Rattle.geo_base.specs.declared.runs.Place.TheVariants.{Start, High, Byte, Times}
use Rattle.geo_base.proofs.RunsLemmas.{run, text_after, text_after-same, text_after-other, runs_text-after}
use Rattle.geo_base.proofs.RunsReach.{hex_value-digit, last_of-many}
use Rattle.geo_base.specs.declared.limits.TheConstants.{MAX_RUNS_BYTES}

abbrev pub at_place : Place → List ℕ → Reading
at_place place bytes = record { place = place; bytes = bytes }

-- what is read behind these bytes
abbrev onward : Option Reading → ℕ → Option Reading
onward None b = None
onward (Some r) b = read_one_more r.place r.bytes b

abbrev pub read_more : Option Reading → List ℕ → Option Reading
read_more o [] = o
read_more o (b ∷ bs) = read_more (onward o b) bs

pub read_more-none : (bs : List ℕ) → read_more None bs ≡ None
read_more-none [] = refl
read_more-none (b ∷ bs) = read_more-none bs

pub read_more-append : (o : Option Reading) (xs ys : List ℕ) → read_more o (xs ++ ys) ≡ read_more (read_more o xs) ys
read_more-append o [] ys = refl
read_more-append o (x ∷ xs) ys = read_more-append (onward o x) xs ys

-- a text of runs that is read whole
pub record EndsRun (o : Option Reading) (all : List ℕ) : Type 0 where
  pub byte : ℕ
  pub times : ℕ
  pub done : List ℕ
  pub some : 1 ≤ times
  pub stands : o ≡ Some (at_place (Times byte times) done)
  pub whole : done ++ replicate times byte ≡ all

read-high : (bytes : List ℕ) (h : ℕ) → h < 16 → read_one_more Start bytes (hex_digit h) ≡ Some (at_place (High h) bytes)
unfolding read_one_more
read-high bytes h lt = ap (λ o. inside_run bytes (high_place o)) (hex_value-digit h lt)

read-low : (bytes : List ℕ) (v : ℕ) → v < 256 → (last_of bytes == v) ≡ false
    → read_one_more (High (v / 16)) bytes (hex_digit (v % 16)) ≡ Some (at_place (Byte v) bytes)
unfolding read_one_more byte_place
read-low bytes v byte other =
    let parts : 16 * (v / 16) + v % 16 ≡ v = omega arith in
    let low : v % 16 < 16 = omega arith in
    ap (λ o. inside_run bytes (byte_place bytes (v / 16) o)) (hex_value-digit (v % 16) low) ∙ rw (parts, other) refl

read-star : (bytes : List ℕ) (v : ℕ) → read_one_more (Byte v) bytes 42 ≡ Some (at_place (Times v 0) bytes)
unfolding read_one_more
read-star bytes v = refl

read-digit : (bytes : List ℕ) (v n m d : ℕ) → d < 10 → m ≡ 10 * n + d → 1 ≤ m → length bytes + m ≤ MAX_RUNS_BYTES
    → read_one_more (Times v n) bytes (48 + d) ≡ Some (at_place (Times v m) bytes)
unfolding read_one_more times_place
read-digit bytes v n m d small e some few =
    let not_space : (48 + d == 32) ≡ false = grind (arith, nat_tests) in
    let value : 10 * n + (48 + d - 48) ≡ m = omega arith in
    let good : ((nat_le 48 (48 + d) && nat_le (48 + d) 57) && (nat_le 1 m && nat_le (length bytes + m) MAX_RUNS_BYTES))
    ≡ true = grind (arith, nat_tests) in
    rw (not_space, value, good) refl

read-space : (bytes : List ℕ) (v n : ℕ) → 1 ≤ n → length bytes + n < MAX_RUNS_BYTES
    → read_one_more (Times v n) bytes 32 ≡ Some (at_place Start (bytes ++ replicate n v))
unfolding read_one_more ended_run
read-space bytes v n some few =
    let good : (nat_le 1 n && nat_lt (length bytes + n) MAX_RUNS_BYTES) ≡ true = grind (arith, nat_tests) in
    rw good refl

abbrev ReadsDigits : List ℕ → ℕ → ℕ → List ℕ → Type 0
ReadsDigits bytes v n ds = 1 ≤ n → length bytes + n ≤ MAX_RUNS_BYTES
    → read_more (Some (at_place (Times v 0) bytes)) ds ≡ Some (at_place (Times v n) bytes)

read-decimal : (bytes : List ℕ) (v n : ℕ) → n < 2 ^ 64 → ReadsDigits bytes v n (decimal n)
read-decimal bytes v n fits = decimal_by_steps (ReadsDigits bytes v) one more n fits
  where
    one : (n : ℕ) → n < 10 → ReadsDigits bytes v n ((48 + n) ∷ [])
    one n small some few = read-digit bytes v 0 n n small (omega arith) some few

    more : (n : ℕ) (ds : List ℕ) → 10 ≤ n → ReadsDigits bytes v (n / 10) ds
        → ReadsDigits bytes v n (ds ++ ((48 + n % 10) ∷ []))
    more n ds big before some few =
        let front : read_more (Some (at_place (Times v 0) bytes)) ds ≡ Some (at_place (Times v (n / 10)) bytes) =
        before (omega arith) (omega arith) in
        read_more-append (Some (at_place (Times v 0) bytes)) ds ((48 + n % 10) ∷ [])
        ∙ ap (λ o. read_more o ((48 + n % 10) ∷ [])) front
        ∙ read-digit bytes v (n / 10) n (n % 10) (omega arith) (omega arith) some few

-- a run is read whole
read-run : (bytes : List ℕ) (v n : ℕ) → v < 256 → (last_of bytes == v) ≡ false → 1 ≤ n
    → length bytes + n ≤ MAX_RUNS_BYTES
    → read_more (Some (at_place Start bytes)) (run_text (run v n)) ≡ Some (at_place (Times v n) bytes)
read-run bytes v n byte other some few =
    let ds = decimal n in
    ap (λ o. read_more o (hex_digit (v % 16) ∷ (42 ∷ ds))) (read-high bytes (v / 16) (omega arith))
    ∙ ap (λ o. read_more o (42 ∷ ds)) (read-low bytes v byte other)
    ∙ ap (λ o. read_more o ds) (read-star bytes v)
    ∙ read-decimal bytes v n (omega arith) some few

-- a run and the bytes after it
read-after : (cs : List ℕ) (bytes : List ℕ) (v n : ℕ) → v < 256 → AllByRecursion (λ b. b < 256) cs
    → (last_of bytes == v) ≡ false → 1 ≤ n → length bytes + n + length cs ≤ MAX_RUNS_BYTES →
    EndsRun (read_more (Some (at_place Start bytes)) (text_after v n cs)) ((bytes ++ replicate n v) ++ cs)
read-after [] bytes v n byte are other some few = record {
  byte = v;
  times = n;
  done = bytes;
  some = some;
  stands = read-run bytes v n byte other some (omega arith);
  whole = sym (append-nil (bytes ++ replicate n v));
}
read-after (c ∷ cs) bytes v n byte are other some few =
    into (c == v) refl (read-after cs bytes v (n + 1) byte are.1 other)
    (read-after cs (bytes ++ replicate n v) c 1 are.0 are.1)
  where
    Whole : List ℕ → List ℕ → Type 0
    Whole text all = EndsRun (read_more (Some (at_place Start bytes)) text) all

    into : (t : Bool) → (c == v) ≡ t →
        (1 ≤ n + 1 → length bytes + (n + 1) + length cs ≤ MAX_RUNS_BYTES
        → EndsRun (read_more (Some (at_place Start bytes)) (text_after v (n + 1) cs))
        ((bytes ++ replicate (n + 1) v) ++ cs)) →
        ((last_of (bytes ++ replicate n v) == c) ≡ false → 1 ≤ 1
        → length (bytes ++ replicate n v) + 1 + length cs ≤ MAX_RUNS_BYTES
        → EndsRun (read_more (Some (at_place Start (bytes ++ replicate n v))) (text_after c 1 cs))
        (((bytes ++ replicate n v) ++ replicate 1 c) ++ cs)) →
        EndsRun (read_more (Some (at_place Start bytes)) (text_after v n (c ∷ cs))) ((bytes ++ replicate n v)
        ++ (c ∷ cs))
    into true e on _ =
        let same : c ≡ v = grind (arith, nat_tests) in
        let r = on (omega arith) (omega arith) in
        record {
          byte = r.byte;
          times = r.times;
          done = r.done;
          some = r.some;
          stands = ap (read_more (Some (at_place Start bytes))) (text_after-same v n c cs same) ∙ r.stands;
          whole = r.whole ∙ ap (λ l. l ++ cs) (ap (λ l. bytes ++ l) (sym (replicate-append-replicate n 1 v))
              ∙ sym (append_assoc bytes (replicate n v) (v ∷ [])))
              ∙ append_assoc (bytes ++ replicate n v) (v ∷ []) cs
              ∙ ap (λ x. (bytes ++ replicate n v) ++ (x ∷ cs)) (sym same);
        }
    into false e _ next =
        let last : last_of (bytes ++ replicate n v) ≡ v = last_of-many bytes v n some in
        let apart : (last_of (bytes ++ replicate n v) == c) ≡ false =
        (let f : (v == c) ≡ false = grind (arith, nat_tests) in ap (λ x. x == c) last ∙ f) in
        let long = length-append bytes (replicate n v) in
        let r = next apart (omega arith) (omega (arith, long, length-replicate {A = ℕ} n v)) in
        record {
          byte = r.byte;
          times = r.times;
          done = r.done;
          some = r.some;
          stands =
              ap (read_more (Some (at_place Start bytes))) (text_after-other v n c cs e)
              ∙ read_more-append (Some (at_place Start bytes)) (run_text (run v n)) (32 ∷ text_after c 1 cs)
              ∙ ap (λ o. read_more o (32 ∷ text_after c 1 cs)) (read-run bytes v n byte other some (omega arith))
              ∙ ap (λ o. read_more o (text_after c 1 cs)) (read-space bytes v n some (omega arith))
              ∙ r.stands;
          whole = r.whole ∙ append_assoc (bytes ++ replicate n v) (c ∷ []) cs;
        }

-- each text of runs is read whole
pub runs-end : (text bytes : List ℕ) → IsRuns text bytes → EndsRun (read_more (Some (at_place Start [])) text) bytes
runs-end text [] r = absurd (let none : 1 ≤ length {A = ℕ} [] = r.some_byte in omega arith)
runs-end text (b ∷ bs) r =
    let are = recursion_from_All (λ b. b < 256) (b ∷ bs) r.are_bytes in
    let few = r.not_long in
    let P : List ℕ → Type 0 = λ t. EndsRun (read_more (Some (at_place Start [])) t) (b ∷ bs) in
    let fresh : (256 == b) ≡ false = (let byte : b < 256 = are.0 in grind (arith, nat_tests)) in
    subst P (sym (r.spelled ∙ runs_text-after b bs))
    (read-after bs [] b 1 are.0 are.1 fresh (omega arith) (omega arith))
