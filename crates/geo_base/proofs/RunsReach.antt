-- What a reader of runs has read.
use Rattle.std.proofs.Common.{◌≡◌, ℕ, zero, suc, ◌+◌, ◌-◌, ◌*◌, ◌/◌, ◌%◌, ◌^◌, ◌<◌, ◌≤◌, ◌==◌, ◌&&◌, nat_lt, nat_le, Bool, true, false, List, [], ◌∷◌, ◌++◌, length, replicate, refl, sym, ◌∙◌, ap, arith, get_or, if◌then◌else◌, append_assoc, append-nil, Option, Some, None, IfSome, decimal, length-append, subst}
use Rattle.std.specs.List.{All}
use Rattle.std.proofs.lemmas.Bool.Decides.{nat_tests}
use Rattle.std.proofs.lemmas.Fmt.{decimal_digit, decimal_step}
use Rattle.std.proofs.lemmas.List.{length-replicate, get_or-append-add, get_or-replicate}
use Rattle.std.proofs.lemmas.List.Elements.{All-append, All-replicate, All-nil}
use Rattle.geo_base.specs.Runs.{hex_digit, run_text, runs_text, IsRuns, BeginsRuns}
use Rattle.geo_base.specs.RunsReader.{Reading, IsPlace, last_of, hex_digit_value, high_place, byte_place, star_place, times_place, inside_run, ended_run, read_one_more}
use Rattle.geo_base.specs.declared.runs.Place.{Place}
use Rattle.geo_base.specs.declared.runs.Place.TheVariants.{Start, High, Byte, Times}
use Rattle.geo_base.proofs.RunsLemmas.{run, runs_one, runs_more}
use Rattle.geo_base.specs.declared.limits.TheConstants.{MAX_RUNS_BYTES}

abbrev pub IsDigits : ℕ → Type 0
IsDigits b = b < 256

-- bytes that go on with another one have this text before its runs
abbrev pub StandsBefore : List ℕ → List ℕ → Type 0
StandsBefore pre bytes = (y : ℕ) (ys : List ℕ) → (last_of bytes == y) ≡ false
    → runs_text (bytes ++ (y ∷ ys)) ≡ pre ++ runs_text (y ∷ ys)

-- the digits of a number, none for 0
abbrev pub number_so_far : ℕ → List ℕ
number_so_far n = if n == 0 then [] else decimal n

-- the run that has begun
abbrev pub begun : Place → List ℕ
begun Start = []
begun (High h) = hex_digit h ∷ []
begun (Byte v) = hex_digit (v / 16) ∷ (hex_digit (v % 16) ∷ [])
begun (Times v n) = hex_digit (v / 16) ∷ (hex_digit (v % 16) ∷ (42 ∷ number_so_far n))

abbrev pub Fits_place : Place → List ℕ → Type 0
Fits_place Start bytes = Unit {0}
Fits_place (High h) bytes = h < 16
Fits_place (Byte v) bytes = (v < 256) × ((last_of bytes == v) ≡ false)
Fits_place (Times v n) bytes = (v < 256) × ((last_of bytes == v) ≡ false) × (length bytes + n ≤ MAX_RUNS_BYTES)

pub record Reached (place : Place) (bytes text : List ℕ) : Type 0 where
  pub pre : List ℕ
  pub before : StandsBefore pre bytes
  pub are_bytes : All (λ b. b < 256) bytes
  pub room : length bytes < MAX_RUNS_BYTES
  pub spelled : text ≡ pre ++ begun place
  pub fits : Fits_place place bytes

pub reached_none : Reached Start [] []
reached_none = record {
  pre = [];
  before = λ y ys _. refl;
  are_bytes = All-nil (λ b. b < 256);
  room = omega arith;
  spelled = refl;
  fits = tt;
}

pub reached-place : (place : Place) (bytes text : List ℕ) → Reached place bytes text → IsPlace place
reached-place Start bytes text r = tt
reached-place (High h) bytes text r = r.fits
reached-place (Byte v) bytes text r = tt
reached-place (Times v n) bytes text r = tt

hex_value-tells : (b h : ℕ) → hex_digit_value b ≡ Some h → (h < 16) × (hex_digit h ≡ b)
unfolding hex_digit_value
hex_value-tells b h e = (grind (arith, nat_tests), grind (arith, nat_tests))

pub hex_value-digit : (h : ℕ) → h < 16 → hex_digit_value (hex_digit h) ≡ Some h
unfolding hex_digit_value
hex_value-digit h lt = grind (arith, nat_tests)

longer : (text pre s : List ℕ) (b : ℕ) (t : List ℕ) → text ≡ pre ++ s → s ++ b ∷ [] ≡ t → text ++ b ∷ [] ≡ pre ++ t
longer text pre s b t e f = ap (λ l. l ++ b ∷ []) e ∙ append_assoc pre s (b ∷ []) ∙ ap (λ l. pre ++ l) f

start-on : (bytes text : List ℕ) (b : ℕ) → Reached Start bytes text
    → IfSome (high_place (hex_digit_value b)) (λ q. Reached q bytes (text ++ b ∷ []))
start-on bytes text b r = into (hex_digit_value b) refl
  where
    into : (o : Option ℕ) → hex_digit_value b ≡ o → IfSome (high_place o) (λ q. Reached q bytes (text ++ b ∷ []))
    into None e = tt
    into (Some h) e =
        let told = hex_value-tells b h e in
        record {
          pre = r.pre;
          before = r.before;
          are_bytes = r.are_bytes;
          room = r.room;
          spelled =
              longer text r.pre [] b _ r.spelled (ap (λ x. x ∷ []) (sym told.1));
          fits = told.0;
        }

high-on : (bytes text : List ℕ) (h b : ℕ) → Reached (High h) bytes text
    → IfSome (byte_place bytes h (hex_digit_value b)) (λ q. Reached q bytes (text ++ b ∷ []))
unfolding byte_place
high-on bytes text h b r = into (hex_digit_value b) refl
  where
    into : (o : Option ℕ) → hex_digit_value b ≡ o
        → IfSome (byte_place bytes h o) (λ q. Reached q bytes (text ++ b ∷ []))
    into None e = tt
    into (Some l) e = among (last_of bytes == 16 * h + l) refl
      where
        among : (t : Bool) → (last_of bytes == 16 * h + l) ≡ t
            → IfSome (if t then None else Some (Byte (16 * h + l))) (λ q. Reached q bytes (text ++ b ∷ []))
        among true _ = tt
        among false other =
            let told = hex_value-tells b l e in
            let small : h < 16 = r.fits in
            let up : (16 * h + l) / 16 ≡ h = omega arith in
            let down : (16 * h + l) % 16 ≡ l = omega arith in
            record {
              pre = r.pre;
              before = r.before;
              are_bytes = r.are_bytes;
              room = r.room;
              spelled = longer text r.pre (hex_digit h ∷ []) b _ r.spelled
                  (rw (up, down) (ap (λ x. hex_digit h ∷ (x ∷ [])) (sym told.1)));
              fits = (omega arith, other);
            }

byte-on : (bytes text : List ℕ) (v b : ℕ) → Reached (Byte v) bytes text
    → IfSome (star_place v b) (λ q. Reached q bytes (text ++ b ∷ []))
byte-on bytes text v b r = into (b == 42) refl
  where
    into : (t : Bool) → (b == 42) ≡ t
        → IfSome (if t then Some (Times v 0) else None) (λ q. Reached q bytes (text ++ b ∷ []))
    into false _ = tt
    into true e =
        let star : b ≡ 42 = grind (arith, nat_tests) in
        record {
          pre = r.pre;
          before = r.before;
          are_bytes = r.are_bytes;
          room = r.room;
          spelled = longer text r.pre (hex_digit (v / 16) ∷ (hex_digit (v % 16) ∷ [])) b _ r.spelled
              (ap (λ x. hex_digit (v / 16) ∷ (hex_digit (v % 16) ∷ (x ∷ []))) star);
          fits = (r.fits.0, r.fits.1, omega (arith, r.room));
        }

-- a number with one digit more
number-on : (n b : ℕ) → 48 ≤ b → b ≤ 57 → 1 ≤ 10 * n + (b - 48) → 10 * n + (b - 48) ≤ MAX_RUNS_BYTES
    → number_so_far n ++ b ∷ [] ≡ number_so_far (10 * n + (b - 48))
number-on n b low high some few = into (n == 0) refl ((10 * n + (b - 48)) == 0) refl
  where
    into : (t : Bool) → (n == 0) ≡ t → (u : Bool) → ((10 * n + (b - 48)) == 0) ≡ u
        → (if t then [] else decimal n) ++ b ∷ [] ≡ (if u then [] else decimal (10 * n + (b - 48)))
    into t e true f = absurd (grind (arith, nat_tests))
    into true e false f =
        let none : n ≡ 0 = grind (arith, nat_tests) in
        let small : 10 * n + (b - 48) < 10 = omega arith in
        let back : 48 + (10 * n + (b - 48)) ≡ b = omega arith in
        sym (decimal_digit (10 * n + (b - 48)) small ∙ ap (λ x. x ∷ []) back)
    into false e false f =
        let any : 1 ≤ n = grind (arith, nat_tests) in
        let big : 10 ≤ 10 * n + (b - 48) = omega arith in
        let up : (10 * n + (b - 48)) / 10 ≡ n = omega arith in
        let down : 48 + (10 * n + (b - 48)) % 10 ≡ b = omega arith in
        let fits : 10 * n + (b - 48) < 2 ^ 64 = omega arith in
        sym (decimal_step (10 * n + (b - 48)) big fits ∙ rw (up, down) refl)

times-on : (bytes text : List ℕ) (v n b : ℕ) → Reached (Times v n) bytes text
    → IfSome (times_place bytes v n b) (λ q. Reached q bytes (text ++ b ∷ []))
unfolding times_place
times-on bytes text v n b r =
    into ((nat_le 48 b && nat_le b 57)
    && (nat_le 1 (10 * n + (b - 48)) && nat_le (length bytes + (10 * n + (b - 48))) MAX_RUNS_BYTES)) refl
  where
    into : (t : Bool)
        → ((nat_le 48 b && nat_le b 57)
        && (nat_le 1 (10 * n + (b - 48)) && nat_le (length bytes + (10 * n + (b - 48))) MAX_RUNS_BYTES)) ≡ t
        → IfSome (if t then Some (Times v (10 * n + (b - 48))) else None)
        (λ q. Reached q bytes (text ++ b ∷ []))
    into false _ = tt
    into true e =
        let low : 48 ≤ b = grind (arith, nat_tests) in
        let high : b ≤ 57 = grind (arith, nat_tests) in
        let some : 1 ≤ 10 * n + (b - 48) = grind (arith, nat_tests) in
        let few : length bytes + (10 * n + (b - 48)) ≤ MAX_RUNS_BYTES = grind (arith, nat_tests) in
        record {
          pre = r.pre;
          before = r.before;
          are_bytes = r.are_bytes;
          room = r.room;
          spelled = longer text r.pre (hex_digit (v / 16) ∷ (hex_digit (v % 16) ∷ (42 ∷ number_so_far n))) b _
              r.spelled (ap (λ l. hex_digit (v / 16) ∷ (hex_digit (v % 16) ∷ (42 ∷ l)))
              (number-on n b low high some (omega arith)));
          fits = (r.fits.0, r.fits.1, few);
        }

-- the last of bytes behind others
pub last_of-many : (bytes : List ℕ) (v n : ℕ) → 1 ≤ n → last_of (bytes ++ replicate n v) ≡ v
last_of-many bytes v n h =
    let long : length (bytes ++ replicate n v) - 1 ≡ length bytes + (n - 1) =
    omega (arith, length-append bytes (replicate n v), length-replicate n v) in
    ap (λ k. get_or (bytes ++ replicate n v) k 256) long ∙ get_or-append-add bytes (replicate n v) (n - 1) 256
    ∙ get_or-replicate n (n - 1) v 256 (omega arith)

-- a run that ends stands before others
stands-on : (pre bytes : List ℕ) (v n : ℕ) → 1 ≤ n → (last_of bytes == v) ≡ false → StandsBefore pre bytes
    → StandsBefore (pre ++ (run_text (run v n) ++ 32 ∷ [])) (bytes ++ replicate n v)
stands-on pre bytes v zero h other before = absurd (omega arith)
stands-on pre bytes v (suc m) h other before = λ y ys new.
    let apart : (y == v) ≡ false =
    (let e : (v == y) ≡ false = ap (λ x. x == y) (sym (last_of-many bytes v (suc m) h)) ∙ new in
    grind (arith, nat_tests)) in
    ap runs_text (append_assoc bytes (replicate (suc m) v) (y ∷ ys))
    ∙ before v (replicate m v ++ (y ∷ ys)) other
    ∙ ap (λ l. pre ++ l) (runs_more v (suc m) y ys h apart
    ∙ sym (append_assoc (run_text (run v (suc m))) (32 ∷ []) (runs_text (y ∷ ys))))
    ∙ sym (append_assoc pre (run_text (run v (suc m)) ++ 32 ∷ []) (runs_text (y ∷ ys)))

number_so_far-some : (n : ℕ) → 1 ≤ n → number_so_far n ≡ decimal n
number_so_far-some n h = let e : (n == 0) ≡ false = grind (arith, nat_tests) in rw e refl

abbrev after_run : List ℕ → ℕ → ℕ → Reading
after_run bytes v n = record { place = Start; bytes = bytes ++ replicate n v }

space-on : (bytes text : List ℕ) (v n : ℕ) → Reached (Times v n) bytes text
    → IfSome (ended_run bytes v n) (λ x. Reached x.place x.bytes (text ++ 32 ∷ []))
unfolding ended_run
space-on bytes text v n r = into (nat_le 1 n && nat_lt (length bytes + n) MAX_RUNS_BYTES) refl
  where
    into : (t : Bool) → (nat_le 1 n && nat_lt (length bytes + n) MAX_RUNS_BYTES) ≡ t
        → IfSome (if t then Some (after_run bytes v n) else None) (λ x. Reached x.place x.bytes (text ++ 32 ∷ []))
    into false _ = tt
    into true e =
        let some : 1 ≤ n = grind (arith, nat_tests) in
        let few : length bytes + n < MAX_RUNS_BYTES = grind (arith, nat_tests) in
        record {
          pre = r.pre ++ (run_text (run v n) ++ 32 ∷ []);
          before = stands-on r.pre bytes v n some r.fits.1 r.before;
          are_bytes = All-append (λ b. b < 256) bytes (replicate n v) r.are_bytes
              (All-replicate (λ b. b < 256) n v r.fits.0);
          room = omega (arith, length-append bytes (replicate n v), length-replicate n v);
          spelled =
              ap (λ l. l ++ 32 ∷ []) (r.spelled
              ∙ ap (λ l. r.pre ++ (hex_digit (v / 16) ∷ (hex_digit (v % 16) ∷ (42 ∷ l))))
              (number_so_far-some n some))
              ∙ append_assoc r.pre (run_text (run v n)) (32 ∷ [])
              ∙ sym (append-nil (r.pre ++ (run_text (run v n) ++ 32 ∷ [])));
          fits = tt;
        }

inside-on : (bytes text : List ℕ) (p : Option Place) → IfSome p (λ q. Reached q bytes text)
    → IfSome (inside_run bytes p) (λ x. Reached x.place x.bytes text)
inside-on bytes text None h = tt
inside-on bytes text (Some q) h = h

-- one byte more is read
reached-on : (place : Place) (bytes text : List ℕ) (b : ℕ) → Reached place bytes text
    → IfSome (read_one_more place bytes b) (λ x. Reached x.place x.bytes (text ++ b ∷ []))
unfolding read_one_more
reached-on Start bytes text b r = inside-on bytes _ (high_place (hex_digit_value b)) (start-on bytes text b r)
reached-on (High h) bytes text b r = inside-on bytes _ (byte_place bytes h (hex_digit_value b))
    (high-on bytes text h b r)
reached-on (Byte v) bytes text b r = inside-on bytes _ (star_place v b) (byte-on bytes text v b r)
reached-on (Times v n) bytes text b r = into (b == 32) refl
  where
    into : (t : Bool) → (b == 32) ≡ t
        → IfSome (if t then ended_run bytes v n else inside_run bytes (times_place bytes v n b))
        (λ x. Reached x.place x.bytes (text ++ b ∷ []))
    into false _ = inside-on bytes _ (times_place bytes v n b) (times-on bytes text v n b r)
    into true e =
        let space : b ≡ 32 = grind (arith, nat_tests) in
        let P : ℕ → Type 0 = λ c. IfSome (ended_run bytes v n) (λ x. Reached x.place x.bytes (text ++ c ∷ [])) in
        subst P (sym space) (space-on bytes text v n r)

pub reached-next : (place next : Place) (bytes more text : List ℕ) (b : ℕ) → Reached place bytes text
    → read_one_more place bytes b ≡ Some (record { place = next; bytes = more }) → Reached next more (text ++ b ∷ [])
reached-next place next bytes more text b r e =
    let P : Option Reading → Type 0 = λ o. IfSome o (λ x. Reached x.place x.bytes (text ++ b ∷ [])) in
    subst P e (reached-on place bytes text b r)

-- a run behind what stands before it
whole : (pre bytes : List ℕ) (v n : ℕ) → StandsBefore pre bytes → All (λ b. b < 256) bytes → v < 256
    → (last_of bytes == v) ≡ false → 1 ≤ n → length bytes + n ≤ MAX_RUNS_BYTES
    → IsRuns (pre ++ run_text (run v n)) (bytes ++ replicate n v)
whole pre bytes v zero before are_bytes byte other some few = absurd (omega arith)
whole pre bytes v (suc m) before are_bytes byte other some few =
    let long = length-append bytes (replicate (suc m) v) in
    record {
      spelled = ap (λ l. pre ++ l) (sym (runs_one v (suc m) some)) ∙ sym (before v (replicate m v) other);
      some_byte = omega (arith, long, length-replicate {A = ℕ} (suc m) v);
      not_long = omega (arith, long, length-replicate {A = ℕ} (suc m) v);
      are_bytes = All-append (λ b. b < 256) bytes (replicate (suc m) v) are_bytes
          (All-replicate (λ b. b < 256) (suc m) v byte);
    }

-- the text of runs that ends with a number
pub reached-runs : (v n : ℕ) (bytes text : List ℕ) → 1 ≤ n → Reached (Times v n) bytes text
    → IsRuns text (bytes ++ replicate n v)
reached-runs v n bytes text some r =
    let P : List ℕ → Type 0 = λ t. IsRuns t (bytes ++ replicate n v) in
    subst P (ap (λ l. r.pre ++ (hex_digit (v / 16) ∷ (hex_digit (v % 16) ∷ (42 ∷ l))))
    (sym (number_so_far-some n some)) ∙ sym r.spelled)
    (whole r.pre bytes v n r.before r.are_bytes r.fits.0 r.fits.1 some r.fits.2)

-- what is read begins a text of runs, if this rest ends a run
ended : (place : Place) (bytes text : List ℕ) → Reached place bytes text → (v n : ℕ) (rest : List ℕ)
    → begun place ++ rest ≡ run_text (run v n) → v < 256 → (last_of bytes == v) ≡ false → 1 ≤ n
    → length bytes + n ≤ MAX_RUNS_BYTES → BeginsRuns text
ended place bytes text r v n rest e byte other some few =
    let P : List ℕ → Type 0 = λ t. IsRuns t (bytes ++ replicate n v) in (
      rest,
      bytes ++ replicate n v,
      subst P (ap (λ l. r.pre ++ l) (sym e) ∙ sym (append_assoc r.pre (begun place) rest)
          ∙ ap (λ t. t ++ rest) (sym r.spelled)) (whole r.pre bytes v n r.before r.are_bytes byte other some few),
    )

-- of two bytes one differs from the last
abbrev other_than : ℕ → ℕ → ℕ
other_than last b = if last == b then b + 1 else b

other_than-differs : (last b : ℕ) → (last == other_than last b) ≡ false
other_than-differs last b = grind (arith, nat_tests)

other_than-near : (last b : ℕ) → b ≤ other_than last b × other_than last b ≤ b + 1
other_than-near last b = (grind (arith, nat_tests), grind (arith, nat_tests))

pub reached-begins : (place : Place) (bytes text : List ℕ) → Reached place bytes text → BeginsRuns text
reached-begins Start bytes text r =
    let v : ℕ = other_than (last_of bytes) 0 in
    let near = other_than-near (last_of bytes) 0 in
    ended Start bytes text r v 1 (run_text (run v 1)) refl (omega (arith, near.1))
    (other_than-differs (last_of bytes) 0) (omega arith) (omega (arith, r.room))
reached-begins (High h) bytes text r =
    let v : ℕ = other_than (last_of bytes) (16 * h) in
    let near = other_than-near (last_of bytes) (16 * h) in
    let small : h < 16 = r.fits in
    let up : v / 16 ≡ h = omega (arith, near.0, near.1) in
    ended (High h) bytes text r v 1 (hex_digit (v % 16) ∷ (42 ∷ decimal 1))
    (ap (λ x. hex_digit x ∷ (hex_digit (v % 16) ∷ (42 ∷ decimal 1))) (sym up)) (omega (arith, near.1))
    (other_than-differs (last_of bytes) (16 * h)) (omega arith) (omega (arith, r.room))
reached-begins (Byte v) bytes text r =
    ended (Byte v) bytes text r v 1 (42 ∷ decimal 1) refl r.fits.0 r.fits.1 (omega arith) (omega (arith, r.room))
reached-begins (Times v n) bytes text r = into (n == 0) refl
  where
    into : (t : Bool) → (n == 0) ≡ t → BeginsRuns text
    into true e =
        let none : n ≡ 0 = grind (arith, nat_tests) in
        ended (Times v n) bytes text r v 1 (decimal 1) (rw e refl) r.fits.0 r.fits.1 (omega arith)
        (omega (arith, r.room))
    into false e =
        ended (Times v n) bytes text r v n [] (append-nil (begun (Times v n)) ∙ rw e refl) r.fits.0 r.fits.1
        (grind (arith, nat_tests)) r.fits.2
