-- The reader of a line and the one text of some bytes agree on what a text of runs is.
use Rattle.std.proofs.Common.{◌||◌, ◌≡◌, ℕ, zero, suc, ◌+◌, ◌*◌, ◌/◌, ◌%◌, ◌^◌, ◌<◌, ◌≤◌, ◌==◌, ◌&&◌, nat_lt, nat_le, Bool, true, false, not, List, [], ◌∷◌, ◌++◌, length, map, replicate, fold, sum_by, Option, Some, None, option_and_then, refl, sym, ◌∙◌, ap, arith, get_or, if◌then◌else◌, subst, rules, decimal, length-append, add-one}
use Rattle.std.specs.List.{All, list_all, join_with_byte}
use Rattle.std.proofs.lemmas.Bool.Decides.{nat_tests}
use Rattle.std.proofs.lemmas.Fmt.{digits_decimal, digits_value-decimal, decimal-digits_value, decimal_nonempty, first_decimal}
use Rattle.std.proofs.lemmas.List.{length-replicate}
use Rattle.std.proofs.lemmas.List.Elements.{All-append, All-cons, All-head, All-tail, All-replicate, All-nil}
use Rattle.std.proofs.lemmas.List.Splits.{slice_split_none, slice_split_at, join_with_byte-slice_split}
use Rattle.std.proofs.lemmas.Str.Parse.{IsNumeralModel, numerals_by_fold}
use Rattle.std.proofs.lemmas.Bool.{and_parts, and_from, ltb-true, leb-true, lt-ltb, le-leb, eqb-true, eq-eqb}
use Rattle.geo_base.proofs.RunsLemmas.{run}
use Rattle.geo_base.specs.Runs.{ByteRun, hex_digit, run_text, runs_of, add_byte, runs_text, IsRuns}
use Rattle.geo_base.specs.declared.limits.TheConstants.{MAX_RUNS_BYTES}
use Rattle.geo_model.specs.Script.{is_digit, is_decimal, value_of, hex_value, run_of, add_run, runs_in, bytes_of_runs, fitting_bytes, words_of}
use Rattle.geo_model.specs.FormatLaws.{runs_read, RunsAgree}
use Rattle.geo_script.proofs.NumberLemmas.{value_behind}
use Rattle.geo_script.proofs.WordsLemmas.{parts-some}

-- Digits

-- each byte is a decimal digit
abbrev AreDigits : List ℕ → Type 0
AreDigits ds = list_all is_digit ds ≡ true

-- these are the digits and the value of what is printed
own : IsNumeralModel AreDigits (value_behind 0)
own = numerals_by_fold _ (search rules) value_behind (search rules)

-- digits that don't begin with a zero
unless_zero : (p q r : Bool) → p ≡ true → q ≡ false → (p && (not q || r)) ≡ true
unless_zero p q r e f = ap (λ t. t && (not q || r)) e ∙ ap (λ t. not t || r) f

-- digits that begin above zero are a number
decimal-from_digits : (ds : List ℕ) → AreDigits ds → 0 < length ds → 48 < get_or ds 0 0 → is_decimal ds ≡ true
decimal-from_digits [] digits some first = absurd (omega arith)
decimal-from_digits (b ∷ bs) digits some first =
    let other : (b == 48) ≡ false = above b first in
    unless_zero (list_all is_digit (b ∷ bs)) (b == 48) (length bs == 0) digits other
  where
    above : (b : ℕ) → 48 < b → (b == 48) ≡ false
    above b h = grind (arith, nat_tests)

-- what is written for a number is read
decimal-read : (n : ℕ) → 1 ≤ n → n < 2 ^ 64 → is_decimal (decimal n) ≡ true
decimal-read n some fits =
    decimal-from_digits (decimal n) (digits_decimal own n fits) (decimal_nonempty n fits)
    (first_decimal n (omega arith) fits)

-- a number has digits
digits-from_decimal : (ds : List ℕ) → is_decimal ds ≡ true → AreDigits ds
digits-from_decimal [] e = refl
digits-from_decimal (b ∷ bs) e = (and_parts (list_all is_digit (b ∷ bs)) (not (b == 48) || (length bs == 0)) e).0

-- one at least
some-from_decimal : (ds : List ℕ) → is_decimal ds ≡ true → 0 < length ds
some-from_decimal [] e = absurd (cc)
some-from_decimal (b ∷ bs) e = omega arith

-- a zero in front stands alone, by its test
alone : (b n : ℕ) → (not (b == 48) || (n == 0)) ≡ true → b ≡ 48 → n ≡ 0
alone b n e h = grind (arith, nat_tests)

-- a zero in front stands alone
zero-from_decimal : (ds : List ℕ) → is_decimal ds ≡ true → get_or ds 0 0 ≡ 48 → length ds ≡ 1
zero-from_decimal [] e h = absurd (cc)
zero-from_decimal (b ∷ bs) e h =
    let none : length bs ≡ 0 =
    alone b (length bs) (and_parts (list_all is_digit (b ∷ bs)) (not (b == 48) || (length bs == 0)) e).1 h in
    omega arith

-- a number that is read is written so
decimal-written : (ds : List ℕ) → is_decimal ds ≡ true → value_of ds < 2 ^ 64 → decimal (value_of ds) ≡ ds
decimal-written ds e fits =
    decimal-digits_value own ds (digits-from_decimal ds e) (some-from_decimal ds e) (zero-from_decimal ds e) fits

-- Hexadecimal digits

-- a hexadecimal digit is the digit of its value
hex-written : (b : ℕ) → nat_lt (hex_value b) 16 ≡ true → hex_digit (hex_value b) ≡ b
hex-written b e = grind (arith, nat_tests)

-- the value of a digit
hex-read : (n : ℕ) → n < 16 → hex_value (hex_digit n) ≡ n
hex-read n h = grind (arith, nat_tests)

-- a digit is no space
hex-no_space : (n : ℕ) → n < 16 → (hex_digit n == 32) ≡ false
hex-no_space n h = grind (arith, nat_tests)

-- Runs

pub record IsRun (x : ByteRun) : Type 0 where
  byte : x.byte < 256
  some : 1 ≤ x.times

-- a byte differs from that of the first run
abbrev Differs : ℕ → List ByteRun → Type 0
Differs b [] = Unit {0}
Differs b (y ∷ ys) = (b == y.byte) ≡ false

-- runs, of which neighbours have different bytes
abbrev AreRuns : List ByteRun → Type 0
AreRuns [] = Unit {0}
AreRuns (x ∷ xs) = IsRun x × Differs x.byte xs × AreRuns xs

-- no run is longer than all bytes may be
abbrev AreSmall : List ByteRun → Type 0
AreSmall [] = Unit {0}
AreSmall (x ∷ xs) = (x.times ≤ MAX_RUNS_BYTES) × AreSmall xs

-- a word is the text of a run
abbrev HasText : List ℕ → ByteRun → Type 0
HasText word x = (word ≡ run_text x) × IsRun x

-- the text of a run by its digits
text_by : (high low star : ℕ) (digits : List ℕ) → nat_lt (hex_value high) 16 ≡ true
    → nat_lt (hex_value low) 16 ≡ true → (star == 42) ≡ true → is_decimal digits ≡ true → value_of digits < 2 ^ 64 →
    high ∷ (low ∷ (star ∷ digits)) ≡ run_text (run (16 * hex_value high + hex_value low) (value_of digits))
text_by high low star digits h l s d fits =
    let small : hex_value low < 16 = ltb-true (hex_value low) 16 l in
    let up : (16 * hex_value high + hex_value low) / 16 ≡ hex_value high =
    parts_up (hex_value high) (hex_value low) small in
    let down : (16 * hex_value high + hex_value low) % 16 ≡ hex_value low =
    parts_down (hex_value high) (hex_value low) small in
    sym (ap (λ n. hex_digit n
    ∷ (hex_digit ((16 * hex_value high + hex_value low) % 16) ∷ (42 ∷ decimal (value_of digits)))) up
    ∙ ap (λ n. hex_digit (hex_value high) ∷ (hex_digit n ∷ (42 ∷ decimal (value_of digits)))) down
    ∙ ap (λ n. n ∷ (hex_digit (hex_value low) ∷ (42 ∷ decimal (value_of digits)))) (hex-written high h)
    ∙ ap (λ n. high ∷ (n ∷ (42 ∷ decimal (value_of digits)))) (hex-written low l)
    ∙ ap (λ n. high ∷ (low ∷ (n ∷ decimal (value_of digits)))) (sym (eqb-true star 42 s))
    ∙ ap (λ ds. high ∷ (low ∷ (star ∷ ds))) (decimal-written digits d fits))
  where
    parts_up : (a b : ℕ) → b < 16 → (16 * a + b) / 16 ≡ a
    parts_up a b h = omega arith

    parts_down : (a b : ℕ) → b < 16 → (16 * a + b) % 16 ≡ b
    parts_down a b h = omega arith

-- a word that is read as a run is its text
run_of-tells : (word : List ℕ) (x : ByteRun) → run_of word ≡ Some x → x.times ≤ MAX_RUNS_BYTES → HasText word x
run_of-tells [] x e few = absurd (cc)
run_of-tells (a ∷ []) x e few = absurd (cc)
run_of-tells (a ∷ b ∷ []) x e few = absurd (cc)
run_of-tells (high ∷ low ∷ star ∷ digits) x e few =
    into (nat_lt (hex_value high) 16
    && (nat_lt (hex_value low) 16 && ((star == 42) && (is_decimal digits && nat_le 1 (value_of digits))))) refl e
  where
    read : ByteRun
    read = run (16 * hex_value high + hex_value low) (value_of digits)

    into : (t : Bool)
        → (nat_lt (hex_value high) 16
        && (nat_lt (hex_value low) 16 && ((star == 42) && (is_decimal digits && nat_le 1 (value_of digits)))))
        ≡ t → (if t then Some (run (16 * hex_value high + hex_value low) (value_of digits)) else None)
        ≡ Some x → HasText (high ∷ low ∷ star ∷ digits) x
    into false t e = absurd (cc)
    into true t e =
        let same : run (16 * hex_value high + hex_value low) (value_of digits) ≡ x = cc in
        let h : nat_lt (hex_value high) 16 ≡ true = (and_parts (nat_lt (hex_value high) 16) _ t).0 in
        let t2 = (and_parts (nat_lt (hex_value high) 16) (nat_lt (hex_value low) 16
        && ((star == 42) && (is_decimal digits && nat_le 1 (value_of digits)))) t).1 in
        let l : nat_lt (hex_value low) 16 ≡ true = (and_parts (nat_lt (hex_value low) 16) _ t2).0 in
        let t3 = (and_parts (nat_lt (hex_value low) 16) ((star == 42)
        && (is_decimal digits && nat_le 1 (value_of digits))) t2).1 in
        let s : (star == 42) ≡ true = (and_parts (star == 42) _ t3).0 in
        let t4 = (and_parts (star == 42) (is_decimal digits && nat_le 1 (value_of digits)) t3).1 in
        let d : is_decimal digits ≡ true = (and_parts (is_decimal digits) _ t4).0 in
        let some : 1 ≤ value_of digits =
        leb-true 1 (value_of digits) (and_parts (is_decimal digits) (nat_le 1 (value_of digits)) t4).1 in
        let times : value_of digits ≡ x.times = ap (λ r. r.times) same in
        let fits : value_of digits < 2 ^ 64 = omega arith in
        let below : 16 * hex_value high + hex_value low < 256 =
        bounded (hex_value high) (hex_value low) (ltb-true (hex_value high) 16 h) (ltb-true (hex_value low) 16 l) in
        let P : ByteRun → Type 0 = λ r. HasText (high ∷ low ∷ star ∷ digits) r in
        subst P same (text_by high low star digits h l s d fits, record { byte = below; some = some })
      where
        bounded : (a b : ℕ) → a < 16 → b < 16 → 16 * a + b < 256
        bounded a b h l = omega arith

-- the text of a run is read as it
run_of-text : (x : ByteRun) → IsRun x → x.times ≤ MAX_RUNS_BYTES → run_of (run_text x) ≡ Some x
run_of-text x is few =
    let fits : x.times < 2 ^ 64 = omega (arith, few) in
    let some : 1 ≤ x.times = is.some in
    let below : x.byte < 256 = is.byte in
    let high : x.byte / 16 < 16 = omega arith in
    let low : x.byte % 16 < 16 = omega arith in
    let h : hex_value (hex_digit (x.byte / 16)) ≡ x.byte / 16 = hex-read (x.byte / 16) high in
    let l : hex_value (hex_digit (x.byte % 16)) ≡ x.byte % 16 = hex-read (x.byte % 16) low in
    let v : value_of (decimal x.times) ≡ x.times = digits_value-decimal own x.times fits in
    let d : is_decimal (decimal x.times) ≡ true = decimal-read x.times some fits in
    let whole : 16 * (x.byte / 16) + x.byte % 16 ≡ x.byte = omega arith in
    read_as (hex_digit (x.byte / 16)) (hex_digit (x.byte % 16)) (decimal x.times) (x.byte / 16) (x.byte % 16)
    x.times h l v d high low some ∙ ap (λ b. Some (run b x.times)) whole
  where
    read_as : (a b : ℕ) (digits : List ℕ) (h l n : ℕ) → hex_value a ≡ h → hex_value b ≡ l → value_of digits ≡ n
        → is_decimal digits ≡ true → h < 16 → l < 16 → 1 ≤ n →
        run_of (a ∷ (b ∷ (42 ∷ digits))) ≡ Some (run (16 * h + l) n)
    read_as a b digits h l n eh el ev d lh ll some =
        ap (λ t. if t then Some (run (16 * hex_value a + hex_value b) (value_of digits)) else None)
        (and_from (nat_lt (hex_value a) 16) _ (ap (λ x. nat_lt x 16) eh ∙ lt-ltb h 16 lh)
        (and_from (nat_lt (hex_value b) 16) _ (ap (λ x. nat_lt x 16) el ∙ lt-ltb l 16 ll)
        (and_from (is_decimal digits) (nat_le 1 (value_of digits)) d (ap (λ x. nat_le 1 x) ev ∙ le-leb 1 n some))))
        ∙ ap (λ x. Some (run (16 * x + hex_value b) (value_of digits))) eh
        ∙ ap (λ x. Some (run (16 * h + x) (value_of digits))) el
        ∙ ap (λ x. Some (run (16 * h + l) x)) ev

-- a byte that isn't a space
abbrev NoSpace : ℕ → Type 0
NoSpace b = (b == 32) ≡ false

-- digits are no spaces
digits-no_space : (ds : List ℕ) → AreDigits ds → All NoSpace ds
digits-no_space [] e = All-nil NoSpace
digits-no_space (b ∷ bs) e =
    All-cons NoSpace b bs (digit b (and_parts (is_digit b) (list_all is_digit bs) e).0)
    (digits-no_space bs (and_parts (is_digit b) (list_all is_digit bs) e).1)
  where
    digit : (b : ℕ) → is_digit b ≡ true → (b == 32) ≡ false
    digit b e = grind (arith, nat_tests)

-- the text of a run has no space
run-no_space : (x : ByteRun) → IsRun x → x.times ≤ MAX_RUNS_BYTES → All NoSpace (run_text x)
run-no_space x is few =
    let fits : x.times < 2 ^ 64 = omega (arith, few) in
    let below : x.byte < 256 = is.byte in
    let high : x.byte / 16 < 16 = omega arith in
    let low : x.byte % 16 < 16 = omega arith in
    All-cons NoSpace (hex_digit (x.byte / 16)) (hex_digit (x.byte % 16) ∷ (42 ∷ decimal x.times))
    (hex-no_space (x.byte / 16) high)
    (All-cons NoSpace (hex_digit (x.byte % 16)) (42 ∷ decimal x.times) (hex-no_space (x.byte % 16) low)
    (All-cons NoSpace 42 (decimal x.times) refl (digits-no_space (decimal x.times) (digits_decimal own x.times fits))))

-- the words of a text of runs
words-of_texts : (x : ByteRun) (xs : List ByteRun) → AreRuns (x ∷ xs) → AreSmall (x ∷ xs)
    → words_of (join_with_byte 32 (map run_text (x ∷ xs))) ≡ map run_text (x ∷ xs)
words-of_texts x [] are small = slice_split_none (λ b. b == 32) (run_text x) (run-no_space x are.0 small.0)
words-of_texts x (y ∷ ys) are small =
    slice_split_at (λ b. b == 32) (run_text x) 32 (join_with_byte 32 (map run_text (y ∷ ys)))
    (run-no_space x are.0 small.0) refl
    ∙ ap (λ ws. run_text x ∷ ws) (words-of_texts y ys are.2 small.1)

-- a run is added before others
add_run-made : (x : ByteRun) (xs : List ByteRun) → Differs x.byte xs → add_run x xs ≡ Some (x ∷ xs)
add_run-made x [] other = refl
add_run-made x (y ∷ ys) other = ap (λ t. if t then None else Some (x ∷ y ∷ ys)) other

-- a run that is added differs from the first of the others
add_run-tells : (x : ByteRun) (ys zs : List ByteRun) → add_run x ys ≡ Some zs → (x ∷ ys ≡ zs) × Differs x.byte ys
add_run-tells x [] zs e = (cc, tt)
add_run-tells x (y ∷ ys) zs e = into (x.byte == y.byte) refl e
  where
    into : (t : Bool) → (x.byte == y.byte) ≡ t → (if t then None else Some (x ∷ y ∷ ys)) ≡ Some zs
        → (x ∷ y ∷ ys ≡ zs) × ((x.byte == y.byte) ≡ false)
    into true t e = absurd (cc)
    into false t e = (cc, t)

-- the texts of runs are read as them
runs_in-texts : (xs : List ByteRun) → AreRuns xs → AreSmall xs → runs_in (map run_text xs) ≡ Some xs
runs_in-texts [] are small = refl
runs_in-texts (x ∷ xs) are small =
    ap (λ o. option_and_then (λ x. option_and_then (add_run x) (runs_in (map run_text xs))) o)
    (run_of-text x are.0 small.0)
    ∙ ap (λ o. option_and_then (add_run x) o) (runs_in-texts xs are.2 small.1)
    ∙ add_run-made x xs are.1

-- words that are read as runs are their texts
runs_in-tells : (ws : List (List ℕ)) (xs : List ByteRun) → runs_in ws ≡ Some xs → AreSmall xs
    → (ws ≡ map run_text xs) × AreRuns xs
runs_in-tells [] [] e small = (refl, tt)
runs_in-tells [] (x ∷ xs) e small = absurd (cc)
runs_in-tells (word ∷ words) xs e small =
    into (λ ys read few. runs_in-tells words ys read few) (run_of word) refl (runs_in words) refl e
  where
    into : ((ys : List ByteRun) → runs_in words ≡ Some ys → AreSmall ys → (words ≡ map run_text ys) × AreRuns ys)
        → (o : Option ByteRun) → run_of word ≡ o → (p : Option (List ByteRun)) → runs_in words ≡ p
        → option_and_then (λ x. option_and_then (add_run x) p) o ≡ Some xs → (word ∷ words ≡ map run_text xs)
        × AreRuns xs
    into known None eo p ep e = absurd (cc)
    into known (Some x) eo None ep e = absurd (cc)
    into known (Some x) eo (Some ys) ep e =
        let told = add_run-tells x ys xs e in
        let smaller : AreSmall (x ∷ ys) = subst AreSmall (sym told.0) small in
        let first = run_of-tells word x eo smaller.0 in
        let rest = known ys ep smaller.1 in
        let P : List ByteRun → Type 0 = λ zs. (word ∷ words ≡ map run_text zs) × AreRuns zs in
        subst P told.0 (ap (λ w. w ∷ words) first.0 ∙ ap (λ ws. run_text x ∷ ws) rest.0, (first.1, told.1, rest.1))

-- Bytes of runs

-- a sum behind a number
sum_from : (n : ℕ) (xs : List ByteRun) → fold (λ a x. a + x.times) n xs ≡ n + fold (λ a x. a + x.times) 0 xs
sum_from n [] = omega arith
sum_from n (x ∷ xs) = sum_from (n + x.times) xs ∙ shift n x.times _ ∙ ap (λ m. n + m) (sym (sum_from (0 + x.times) xs))
  where
    shift : (a b c : ℕ) → a + b + c ≡ a + (0 + b + c)
    shift a b c = omega arith

-- how many bytes runs stand for
abbrev sum_of : List ByteRun → ℕ
sum_of xs = sum_by (λ x. x.times) xs

-- that of the first run and the others
sum_of-cons : (x : ByteRun) (xs : List ByteRun) → sum_of (x ∷ xs) ≡ x.times + sum_of xs
sum_of-cons x xs = sum_from (0 + x.times) xs ∙ drop_zero x.times _
  where
    drop_zero : (a b : ℕ) → 0 + a + b ≡ a + b
    drop_zero a b = omega arith

-- runs for few bytes are small
small-from_sum : (xs : List ByteRun) → sum_of xs ≤ MAX_RUNS_BYTES → AreSmall xs
small-from_sum [] h = tt
small-from_sum (x ∷ xs) h =
    let e : sum_of (x ∷ xs) ≡ x.times + sum_of xs = sum_of-cons x xs in
    (first x.times (sum_of xs) _ e h, small-from_sum xs (second x.times (sum_of xs) _ e h))
  where
    first : (a b s : ℕ) → s ≡ a + b → s ≤ MAX_RUNS_BYTES → a ≤ MAX_RUNS_BYTES
    first a b s e h = omega arith

    second : (a b s : ℕ) → s ≡ a + b → s ≤ MAX_RUNS_BYTES → b ≤ MAX_RUNS_BYTES
    second a b s e h = omega arith

-- the number of bytes of runs
length-bytes : (xs : List ByteRun) → length (bytes_of_runs xs) ≡ sum_of xs
length-bytes [] = refl
length-bytes (x ∷ xs) =
    length-append (replicate x.times x.byte) (bytes_of_runs xs)
    ∙ ap (λ n. n + length (bytes_of_runs xs)) (length-replicate x.times x.byte)
    ∙ ap (λ n. x.times + n) (length-bytes xs) ∙ sym (sum_of-cons x xs)

-- the bytes of runs are bytes
bytes-below : (xs : List ByteRun) → AreRuns xs → All (λ b. b < 256) (bytes_of_runs xs)
bytes-below [] are = All-nil (λ b. b < 256)
bytes-below (x ∷ xs) are =
    All-append (λ b. b < 256) (replicate x.times x.byte) (bytes_of_runs xs)
    (All-replicate (λ b. b < 256) x.times x.byte are.0.byte) (bytes-below xs are.2)

-- runs stand for some byte
bytes-some : (xs : List ByteRun) → 1 ≤ length xs → AreRuns xs → 1 ≤ length (bytes_of_runs xs)
bytes-some [] h are = absurd (omega arith)
bytes-some (x ∷ xs) h are = enough x.times (sum_of xs) _ (length-bytes (x ∷ xs) ∙ sum_of-cons x xs) are.0.some
  where
    enough : (a b s : ℕ) → s ≡ a + b → 1 ≤ a → 1 ≤ s
    enough a b s e h = omega arith

-- a byte that begins a run
add_byte-new : (b : ℕ) (ys : List ByteRun) → Differs b ys → add_byte b ys ≡ run b 1 ∷ ys
add_byte-new b [] other = refl
add_byte-new b (y ∷ ys) other = ap (λ t. if t then run b (y.times + 1) ∷ ys else run b 1 ∷ (y ∷ ys)) other

-- a byte that goes on with a run
add_byte-more : (b n : ℕ) (ys : List ByteRun) → add_byte b (run b n ∷ ys) ≡ run b (suc n) ∷ ys
add_byte-more b n ys =
    ap (λ t. if t then run b (n + 1) ∷ ys else run b 1 ∷ (run b n ∷ ys)) (eq-eqb b b refl)
    ∙ ap (λ m. run b m ∷ ys) (add-one n)

-- the runs of a byte many times before others
runs-many : (b n : ℕ) (rest : List ℕ) (ys : List ByteRun) → runs_of rest ≡ ys → Differs b ys → 1 ≤ n
    → runs_of (replicate n b ++ rest) ≡ run b n ∷ ys
runs-many b zero rest ys e other some = absurd (omega arith)
runs-many b (suc zero) rest ys e other some = ap (add_byte b) e ∙ add_byte-new b ys other
runs-many b (suc (suc m)) rest ys e other some =
    ap (add_byte b) (runs-many b (suc m) rest ys e other (omega arith)) ∙ add_byte-more b (suc m) ys

-- the runs of the bytes of runs are these
runs-back : (xs : List ByteRun) → AreRuns xs → runs_of (bytes_of_runs xs) ≡ xs
runs-back [] are = refl
runs-back (x ∷ xs) are = runs-many x.byte x.times (bytes_of_runs xs) xs (runs-back xs are.2) are.1 are.0.some

-- the bytes of runs with one more
bytes-add : (b : ℕ) (xs : List ByteRun) → bytes_of_runs (add_byte b xs) ≡ b ∷ bytes_of_runs xs
bytes-add b [] = refl
bytes-add b (x ∷ xs) = into (b == x.byte) refl
  where
    into : (t : Bool) → (b == x.byte) ≡ t
        → bytes_of_runs (if t then run b (x.times + 1) ∷ xs else run b 1 ∷ (x ∷ xs))
        ≡ b ∷ (replicate x.times x.byte ++ bytes_of_runs xs)
    into true t =
        ap (λ n. replicate n b ++ bytes_of_runs xs) (add-one x.times)
        ∙ ap (λ c. b ∷ (replicate x.times c ++ bytes_of_runs xs)) (eqb-true b x.byte t)
    into false t = refl

-- the bytes of the runs of bytes are these
bytes-back : (bs : List ℕ) → bytes_of_runs (runs_of bs) ≡ bs
bytes-back [] = refl
bytes-back (b ∷ bs) = bytes-add b (runs_of bs) ∙ ap (λ l. b ∷ l) (bytes-back bs)

-- runs with a byte more are runs
runs-add : (b : ℕ) (xs : List ByteRun) → b < 256 → AreRuns xs → AreRuns (add_byte b xs)
runs-add b [] h are = (record { byte = h; some = omega arith }, tt, tt)
runs-add b (x ∷ xs) h are = into (b == x.byte) refl
  where
    into : (t : Bool) → (b == x.byte) ≡ t → AreRuns (if t then run b (x.times + 1) ∷ xs else run b 1 ∷ (x ∷ xs))
    into true t =
        let P : ℕ → Type 0 = λ c. Differs c xs in
        (record { byte = h; some = omega arith }, subst P (sym (eqb-true b x.byte t)) are.1, are.2)
    into false t = (record { byte = h; some = omega arith }, t, are)

-- the runs of bytes are runs
runs-are : (bs : List ℕ) → All (λ b. b < 256) bs → AreRuns (runs_of bs)
runs-are [] h = tt
runs-are (b ∷ bs) h =
    runs-add b (runs_of bs) (All-head (λ b. b < 256) b bs h) (runs-are bs (All-tail (λ b. b < 256) b bs h))

-- bytes have a run
runs-some : (bs : List ℕ) → 1 ≤ length bs → 1 ≤ length (runs_of bs)
runs-some [] h = absurd (omega arith)
runs-some (b ∷ bs) h = added b (runs_of bs)
  where
    added : (b : ℕ) (xs : List ByteRun) → 1 ≤ length (add_byte b xs)
    added b [] = omega arith
    added b (x ∷ xs) = into (b == x.byte)
      where
        into : (t : Bool) → 1 ≤ length (if t then run b (x.times + 1) ∷ xs else run b 1 ∷ (x ∷ xs))
        into true = omega arith
        into false = omega arith

-- The law

-- texts of runs are as many as these
texts_some : (xs : List ByteRun) → 1 ≤ length (map run_text xs) → 1 ≤ length xs
texts_some [] h = h
texts_some (x ∷ xs) h = omega arith

-- the bytes of words that are read as runs
read-runs_bytes : (ws : List (List ℕ)) (xs : List ByteRun) → 1 ≤ length ws → runs_in ws ≡ Some xs
    → sum_of xs ≤ MAX_RUNS_BYTES →
    (1 ≤ length (bytes_of_runs xs)) × (length (bytes_of_runs xs) ≤ MAX_RUNS_BYTES)
    × All (λ b. b < 256) (bytes_of_runs xs)
read-runs_bytes ws xs some e few =
    let told = runs_in-tells ws xs e (small-from_sum xs few) in
    let any : 1 ≤ length xs = texts_some xs (subst (λ (ws : List (List ℕ)). 1 ≤ length ws) told.0 some) in (
      bytes-some xs any told.1,
      within (length (bytes_of_runs xs)) (sum_of xs) (length-bytes xs) few,
      bytes-below xs told.1,
    )
  where
    within : (a b : ℕ) → a ≡ b → b ≤ MAX_RUNS_BYTES → a ≤ MAX_RUNS_BYTES
    within a b e h = omega arith

-- a text whose words are read as runs is the text of their bytes
read-is_runs : (text : List ℕ) (xs : List ByteRun) → runs_in (words_of text) ≡ Some xs → sum_of xs ≤ MAX_RUNS_BYTES
    → IsRuns text (bytes_of_runs xs)
unfolding runs_text
read-is_runs text xs e few =
    let told = runs_in-tells (words_of text) xs e (small-from_sum xs few) in
    let bytes = read-runs_bytes (words_of text) xs (parts-some 32 text) e few in
    record {
      spelled = sym (join_with_byte-slice_split 32 text) ∙ ap (join_with_byte 32) told.0
          ∙ ap (λ rs. join_with_byte 32 (map run_text rs)) (sym (runs-back xs told.1));
      some_byte = bytes.0;
      not_long = bytes.1;
      are_bytes = bytes.2;
    }

-- the bytes that a line's words are read as
pub read-bytes : (ws : List (List ℕ)) (bytes : List ℕ) → 1 ≤ length ws
    → option_and_then fitting_bytes (runs_in ws) ≡ Some bytes → (1 ≤ length bytes) × (length bytes ≤ MAX_RUNS_BYTES)
    × All (λ b. b < 256) bytes
read-bytes ws bytes some e = into (runs_in ws) refl e
  where
    fits : (xs : List ByteRun) → runs_in ws ≡ Some xs → (t : Bool) → nat_le (sum_of xs) MAX_RUNS_BYTES ≡ t
        → (if t then Some (bytes_of_runs xs) else None) ≡ Some bytes → (1 ≤ length bytes)
        × (length bytes ≤ MAX_RUNS_BYTES)
        × All (λ b. b < 256) bytes
    fits xs read false t e = absurd (cc)
    fits xs read true t e =
        let same : bytes_of_runs xs ≡ bytes = cc in
        let P : List ℕ → Type 0 = λ bs. (1 ≤ length bs) × (length bs ≤ MAX_RUNS_BYTES) × All (λ b. b < 256) bs in
        subst P same (read-runs_bytes ws xs some read (leb-true (sum_of xs) MAX_RUNS_BYTES t))

    into : (o : Option (List ByteRun)) → runs_in ws ≡ o → option_and_then fitting_bytes o ≡ Some bytes
        → (1 ≤ length bytes) × (length bytes ≤ MAX_RUNS_BYTES) × All (λ b. b < 256) bytes
    into None read e = absurd (cc)
    into (Some xs) read e = fits xs read (nat_le (sum_of xs) MAX_RUNS_BYTES) refl e

-- what is read is a text of runs
agree-to : (text bytes : List ℕ) → runs_read text ≡ Some bytes → IsRuns text bytes
agree-to text bytes e = into (runs_in (words_of text)) refl e
  where
    fits : (xs : List ByteRun) → runs_in (words_of text) ≡ Some xs → (t : Bool) → nat_le (sum_of xs) MAX_RUNS_BYTES ≡ t
        → (if t then Some (bytes_of_runs xs) else None) ≡ Some bytes → IsRuns text bytes
    fits xs read false t e = absurd (cc)
    fits xs read true t e =
        let same : bytes_of_runs xs ≡ bytes = cc in
        let P : List ℕ → Type 0 = λ bs. IsRuns text bs in
        subst P same (read-is_runs text xs read (leb-true (sum_of xs) MAX_RUNS_BYTES t))

    into : (o : Option (List ByteRun)) → runs_in (words_of text) ≡ o → option_and_then fitting_bytes o ≡ Some bytes
        → IsRuns text bytes
    into None read e = absurd (cc)
    into (Some xs) read e = fits xs read (nat_le (sum_of xs) MAX_RUNS_BYTES) refl e

-- the words of a text of runs, however many
words-of_all : (xs : List ByteRun) → 1 ≤ length xs → AreRuns xs → AreSmall xs
    → words_of (join_with_byte 32 (map run_text xs)) ≡ map run_text xs
words-of_all [] h are small = absurd (omega arith)
words-of_all (x ∷ xs) h are small = words-of_texts x xs are small

-- a text of runs is read
agree-from : (text bytes : List ℕ) → IsRuns text bytes → runs_read text ≡ Some bytes
unfolding runs_text
agree-from text bytes is =
    let are : AreRuns (runs_of bytes) = runs-are bytes is.are_bytes in
    let few : sum_of (runs_of bytes) ≤ MAX_RUNS_BYTES =
    within (length bytes) (sum_of (runs_of bytes)) (ap length (sym (bytes-back bytes))
    ∙ length-bytes (runs_of bytes)) is.not_long in
    let small : AreSmall (runs_of bytes) = small-from_sum (runs_of bytes) few in
    let words : words_of text ≡ map run_text (runs_of bytes) = ap words_of is.spelled
    ∙ words-of_all (runs_of bytes) (runs-some bytes is.some_byte) are small in
    ap (λ ws. option_and_then fitting_bytes (runs_in ws)) words
    ∙ ap (λ o. option_and_then fitting_bytes o) (runs_in-texts (runs_of bytes) are small)
    ∙ ap (λ t. if t then Some (bytes_of_runs (runs_of bytes)) else None)
    (le-leb (sum_of (runs_of bytes)) MAX_RUNS_BYTES few)
    ∙ ap Some (bytes-back bytes)
  where
    within : (a b : ℕ) → a ≡ b → a ≤ MAX_RUNS_BYTES → b ≤ MAX_RUNS_BYTES
    within a b e h = omega arith

-- both
pub runs-agree : RunsAgree
runs-agree text bytes = (agree-to text bytes, agree-from text bytes)
