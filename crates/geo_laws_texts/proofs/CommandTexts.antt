-- The text of each command that is drawn is that of clean words, which are read as a command.
use Rattle.std.specs.Prelude.{◌≡◌, ℕ, zero, suc, ◌+◌, ◌*◌, ◌/◌, ◌%◌, ◌^◌, ◌<◌, ◌≤◌, ◌&&◌, nat_le, nat_lt, Bool, true, false, List, [], ◌∷◌, ◌++◌, length, codes, decimal, replicate, sum_by, Some, Ok, option_and_then}
use Rattle.std.specs.Fmt.{digits}
use Rattle.std.specs.List.{AllByRecursion, list_all}
use Rattle.std.proofs.Common.{refl, sym, ◌∙◌, ap, arith, subst}
use Rattle.std.proofs.lemmas.Bool.Decides.{nat_tests}
use Rattle.std.proofs.lemmas.Bool.{le-leb, lt-ltb}
use Rattle.std.proofs.lemmas.Fmt.{length-decimal-le, decimal_nonempty}
use Rattle.std.proofs.lemmas.List.{append_assoc, length-append}
use Rattle.geo_base.specs.Name.{is_name, is_short_name}
use Rattle.geo_base.specs.Runs.{ByteRun, hex_digit}
use Rattle.geo_base.specs.declared.request.Counts.{Counts}
use Rattle.geo_base.specs.declared.limits.TheConstants.{MAX_RUNS_BYTES}
use Rattle.geo_model.specs.declared.command.Command.{Command}
use Rattle.geo_model.specs.declared.command.Command.TheVariants as commands
use Rattle.geo_model.specs.Script.{is_digit, Words, by_word, command_table, counts_of, fitting_bytes, hex_value, is_decimal, number_of, run_of, runs_in, value_of}
use Rattle.geo_model.specs.Generator.{byte_text, command_text, handle_text, len_text, offset_text, open_counts, open_provider}
use Rattle.geo_laws_texts.proofs.Clean.{IsClean, is_clean_byte, line_of}
use Rattle.geo_laws_texts.proofs.Numbers.{decimal_read, number_read, value_read, written_digits}

-- a text is that of clean words, and these are read as a command
pub record IsCommandText (text : List ℕ) : Type 0 where
  pub first : List ℕ
  pub others : Words
  pub text_is : text ≡ line_of (first ∷ others)
  pub clean : AllByRecursion IsClean (first ∷ others)
  pub short : length text ≤ 200
  pub command : Command
  pub reads : by_word command_table (first ∷ others) ≡ Ok command

-- a short name that is clean, and at most two bytes
pub record IsHandleWord (word : List ℕ) : Type 0 where
  pub name : is_short_name word ≡ true
  pub clean : IsClean word
  pub short : length word ≤ 2

-- a number's word
pub record IsNumberWord (word : List ℕ) : Type 0 where
  pub number : ℕ
  pub reads : number_of word ≡ Some number
  pub clean : IsClean word
  pub short : length word ≤ 7

-- digits are clean
digit_clean : (ds : List ℕ) → list_all is_digit ds ≡ true → list_all is_clean_byte ds ≡ true
digit_clean [] all = refl
digit_clean (b ∷ bs) all = by (is_digit b) refl all (digit_clean bs)
  where
    one : (b : ℕ) → is_digit b ≡ true → is_clean_byte b ≡ true
    one b e = grind (arith, nat_tests)

    by : (c : Bool) → is_digit b ≡ c → (c && list_all is_digit bs) ≡ true
        → (list_all is_digit bs ≡ true → list_all is_clean_byte bs ≡ true)
        → list_all is_clean_byte (b ∷ bs) ≡ true
    by true e all rest = rw (one b e) (rest all)
    by false e all rest = absurd (let bad : ⊥ = cc in bad)

-- a number is written clean
written_clean : (n : ℕ) → n < 2 ^ 64 → IsClean (decimal n)
written_clean n fits =
    record { some_byte = decimal_nonempty n fits; bytes = digit_clean (decimal n) (written_digits n fits) }

-- a number's word
number_word : (n : ℕ) → n < 1000000 → IsNumberWord (decimal n)
number_word n fits = record {
  number = n;
  reads = number_read n (omega (arith, fits));
  clean = written_clean n (omega (arith, fits));
  short = let few : length (decimal n) ≤ 6 = length-decimal-le 6 n (omega arith) fits (omega (arith, fits)) in
      omega (arith, few);
}

-- the two handles
handle_by : (k : ℕ) → k < 2 → IsHandleWord (codes "h" ++ decimal k)
unfolding digits
handle_by zero below =
    record { name = refl; clean = record { some_byte = omega arith; bytes = refl }; short = omega arith }
handle_by (suc zero) below =
    record { name = refl; clean = record { some_byte = omega arith; bytes = refl }; short = omega arith }
handle_by (suc (suc k)) below = absurd (omega (arith, below))

-- the handle of a draw
pub handle_word : (d2 : ℕ) → IsHandleWord (handle_text d2)
handle_word d2 = handle_by (d2 % 2) (omega arith)

-- offsets and lengths
pub offset_word : (d3 : ℕ) → IsNumberWord (offset_text d3)
offset_word d3 = number_word (512 * (d3 % 1024)) (omega arith)

-- the length of a draw
pub len_word : (d2 : ℕ) → IsNumberWord (len_text d2)
len_word d2 = number_word (512 * (1 + (d2 / 2) % 8)) (omega arith)

-- Each command

-- a command of a handle alone
alone : (h : List ℕ) → IsHandleWord h → IsCommandText (codes "close " ++ h)
alone h handle = record {
  first = codes "close";
  others = h ∷ [];
  text_is = refl;
  clean = (record { some_byte = omega arith; bytes = refl }, (handle.clean, tt));
  short = omega (arith, handle.short, length-append (codes "close ") h);
  command = commands.Close h;
  reads = rw handle.name refl;
}

-- a flush
flushed : (h : List ℕ) → IsHandleWord h → IsCommandText (codes "flush " ++ h)
flushed h handle = record {
  first = codes "flush";
  others = h ∷ [];
  text_is = refl;
  clean = (record { some_byte = omega arith; bytes = refl }, (handle.clean, tt));
  short = omega (arith, handle.short, length-append (codes "flush ") h);
  command = commands.Flush h;
  reads = rw handle.name refl;
}

-- three words behind a name and a space
three : (a b c : List ℕ) → a ++ codes " " ++ b ++ codes " " ++ c ≡ line_of (a ∷ b ∷ c ∷ [])
three a b c =
    append_assoc (a ++ codes " " ++ b) (codes " ") c
    ∙ append_assoc (a ++ codes " ") b (codes " " ++ c)
    ∙ append_assoc a (codes " ") (b ++ (codes " " ++ c))

-- how long they are
three_short : (a b c : List ℕ) → length (a ++ codes " " ++ b ++ codes " " ++ c) ≡ length a + length b + length c + 2
three_short a b c =
    let first = length-append (a ++ codes " " ++ b ++ codes " ") c in
    let second = length-append (a ++ codes " " ++ b) (codes " ") in
    let third = length-append (a ++ codes " ") b in
    let fourth = length-append a (codes " ") in
    omega (arith, first, second, third, fourth)

-- a read
read_text : (h o l : List ℕ) → IsHandleWord h → IsNumberWord o → IsNumberWord l
    → IsCommandText (codes "read " ++ h ++ codes " " ++ o ++ codes " " ++ l)
read_text h o l handle offset len = record {
  first = codes "read";
  others = h ∷ o ∷ l ∷ [];
  text_is = ap (λ xs. codes "read " ++ xs) (three h o l);
  clean = (record { some_byte = omega arith; bytes = refl }, (handle.clean, (offset.clean, (len.clean, tt))));
  short = omega (arith, three_short h o l, handle.short, offset.short, len.short);
  command = commands.Read h offset.number len.number;
  reads = rw (handle.name, offset.reads, len.reads) refl;
}

-- a delete
delete_text : (h o l : List ℕ) → IsHandleWord h → IsNumberWord o → IsNumberWord l
    → IsCommandText (codes "delete " ++ h ++ codes " " ++ o ++ codes " " ++ l)
delete_text h o l handle offset len = record {
  first = codes "delete";
  others = h ∷ o ∷ l ∷ [];
  text_is = ap (λ xs. codes "delete " ++ xs) (three h o l);
  clean = (record { some_byte = omega arith; bytes = refl }, (handle.clean, (offset.clean, (len.clean, tt))));
  short = omega (arith, three_short h o l, handle.short, offset.short, len.short);
  command = commands.Delete h offset.number len.number;
  reads = rw (handle.name, offset.reads, len.reads) refl;
}

-- the word of a run is read
pub record IsRunWord (word : List ℕ) : Type 0 where
  pub bytes : List ℕ
  pub reads : option_and_then fitting_bytes (runs_in (word ∷ [])) ≡ Some bytes
  pub clean : IsClean word
  pub short : length word ≤ 12

-- a hexadecimal digit has its value, and is clean
hex_read : (n : ℕ) → n < 16 → hex_value (hex_digit n) ≡ n
hex_read n h = grind (arith, nat_tests)

-- and such a digit is clean
hex_clean : (n : ℕ) → n < 16 → is_clean_byte (hex_digit n) ≡ true
hex_clean n h = grind (arith, nat_tests)

-- a run that isn't too long gives its bytes
one_fits : (x : ByteRun) → x.times ≤ MAX_RUNS_BYTES → fitting_bytes (x ∷ []) ≡ Some (replicate x.times x.byte ++ [])
one_fits x few =
    let fits : nat_le (sum_by (λ (y : ByteRun). y.times) (x ∷ [])) MAX_RUNS_BYTES ≡ true =
    le-leb (sum_by (λ (y : ByteRun). y.times) (x ∷ [])) MAX_RUNS_BYTES (omega (arith, few)) in
    rw fits refl

-- one run of a byte, n times
run_word : (high low n : ℕ) → high < 16 → low < 16 → 1 ≤ n → n ≤ MAX_RUNS_BYTES
    → IsRunWord (hex_digit high ∷ hex_digit low ∷ 42 ∷ decimal n)
run_word high low n h l some few = record {
  bytes = replicate n (16 * high + low) ++ [];
  reads =
      by (hex_digit high) (hex_digit low) (decimal n) (hex_read high h) (hex_read low l)
      (decimal_read n (omega (arith, few))) (value_read n (omega (arith, few))) (lt-ltb high 16 h) (lt-ltb low 16 l)
      (le-leb 1 n some) few;
  clean = record {
    some_byte = omega arith;
    bytes = rw (hex_clean high h, hex_clean low l)
        (digit_clean (decimal n) (written_digits n (omega (arith, few))));
  };
  short = let few_digits : length (decimal n) ≤ 6 =
      length-decimal-le 6 n (omega arith) (omega (arith, few)) (omega (arith, few)) in
      omega (arith, few_digits);
}
  where
    by : (a b : ℕ) (ds : List ℕ) → hex_value a ≡ high → hex_value b ≡ low → is_decimal ds ≡ true → value_of ds ≡ n
        → nat_lt high 16 ≡ true → nat_lt low 16 ≡ true → nat_le 1 n ≡ true → n ≤ MAX_RUNS_BYTES
        → option_and_then fitting_bytes (runs_in ((a ∷ b ∷ 42 ∷ ds) ∷ []))
        ≡ Some (replicate n (16 * high + low) ++ [])
    by a b ds first second is value high_fits low_fits one some_few =
        let run : run_of (a ∷ b ∷ 42 ∷ ds) ≡ Some (record { byte = 16 * high + low; times = n }) =
        rw (first, second, is, value, high_fits, low_fits, one) refl in
        rw run (one_fits (record { byte = 16 * high + low; times = n }) some_few)

-- a write
write_text : (h o r : List ℕ) → IsHandleWord h → IsNumberWord o → IsRunWord r
    → IsCommandText (codes "write " ++ h ++ codes " " ++ o ++ codes " " ++ r)
write_text h o r handle offset run = record {
  first = codes "write";
  others = h ∷ o ∷ r ∷ [];
  text_is = ap (λ xs. codes "write " ++ xs) (three h o r);
  clean = (record { some_byte = omega arith; bytes = refl }, (handle.clean, (offset.clean, (run.clean, tt))));
  short = omega (arith, three_short h o r, handle.short, offset.short, run.short);
  command = commands.Write h offset.number run.bytes;
  reads = rw (handle.name, offset.reads, run.reads) refl;
}

-- a provider's name, and counts
pub record IsProviderWord (word : List ℕ) : Type 0 where
  pub name : is_name word ≡ true
  pub clean : IsClean word
  pub short : length word ≤ 10

-- counts, as a word
pub record IsCountsWord (word : List ℕ) : Type 0 where
  pub counts : Counts
  pub reads : counts_of word ≡ Some counts
  pub clean : IsClean word
  pub short : length word ≤ 6

-- an open
open_text : (h p c : List ℕ) → IsHandleWord h → IsProviderWord p → IsCountsWord c
    → IsCommandText (codes "open " ++ h ++ codes " " ++ p ++ codes " " ++ c)
open_text h p c handle provider counts = record {
  first = codes "open";
  others = h ∷ p ∷ c ∷ [];
  text_is = ap (λ xs. codes "open " ++ xs) (three h p c);
  clean = (record { some_byte = omega arith; bytes = refl }, (handle.clean, (provider.clean, (counts.clean, tt))));
  short = omega (arith, three_short h p c, handle.short, provider.short, counts.short);
  command = commands.Open h p counts.counts;
  reads = rw (handle.name, provider.name, counts.reads) refl;
}

-- a word of the six providers
provider_by : (k : ℕ) → k < 6 → IsProviderWord (open_provider k)
provider_by zero b =
    record { name = refl; clean = record { some_byte = omega arith; bytes = refl }; short = omega arith }
provider_by (suc zero) b =
    record { name = refl; clean = record { some_byte = omega arith; bytes = refl }; short = omega arith }
provider_by (suc (suc zero)) b =
    record { name = refl; clean = record { some_byte = omega arith; bytes = refl }; short = omega arith }
provider_by (suc (suc (suc zero))) b =
    record { name = refl; clean = record { some_byte = omega arith; bytes = refl }; short = omega arith }
provider_by (suc (suc (suc (suc zero)))) b =
    record { name = refl; clean = record { some_byte = omega arith; bytes = refl }; short = omega arith }
provider_by (suc (suc (suc (suc (suc zero))))) b =
    record { name = refl; clean = record { some_byte = omega arith; bytes = refl }; short = omega arith }
provider_by (suc (suc (suc (suc (suc (suc k)))))) b = absurd (omega (arith, b))

-- one of the five counts
counts_by : (k : ℕ) → k < 5 → IsCountsWord (open_counts k)
counts_by zero b =
    record { counts = _; reads = refl; clean = record { some_byte = omega arith; bytes = refl }; short = omega arith }
counts_by (suc zero) b =
    record { counts = _; reads = refl; clean = record { some_byte = omega arith; bytes = refl }; short = omega arith }
counts_by (suc (suc zero)) b =
    record { counts = _; reads = refl; clean = record { some_byte = omega arith; bytes = refl }; short = omega arith }
counts_by (suc (suc (suc zero))) b =
    record { counts = _; reads = refl; clean = record { some_byte = omega arith; bytes = refl }; short = omega arith }
counts_by (suc (suc (suc (suc zero)))) b =
    record { counts = _; reads = refl; clean = record { some_byte = omega arith; bytes = refl }; short = omega arith }
counts_by (suc (suc (suc (suc (suc k))))) b = absurd (omega (arith, b))

-- the command of some draws
pub drawn_command : (d1 d2 d3 : ℕ) → IsCommandText (command_text d1 d2 d3)
drawn_command d1 d2 d3 = by (d1 % 8) refl (omega arith)
  where
    handle : IsHandleWord (handle_text d2)
    handle = handle_word d2

    opened : IsCommandText (codes "open " ++ handle_text d2 ++ codes " " ++ open_provider ((d2 / 2) % 6) ++ codes " "
        ++ open_counts (d3 % 5))
    opened =
        open_text (handle_text d2) (open_provider ((d2 / 2) % 6)) (open_counts (d3 % 5)) handle
        (provider_by ((d2 / 2) % 6) (omega arith)) (counts_by (d3 % 5) (omega arith))

    read : IsCommandText (codes "read " ++ handle_text d2 ++ codes " " ++ offset_text d3 ++ codes " " ++ len_text d2)
    read = read_text (handle_text d2) (offset_text d3) (len_text d2) handle (offset_word d3) (len_word d2)

    write : IsCommandText (codes "write " ++ handle_text d2 ++ codes " " ++ offset_text d3 ++ codes " "
        ++ byte_text (d3 % 256) ++ codes "*" ++ len_text d2)
    write =
        subst IsCommandText
        (sym (append_assoc (codes "write " ++ handle_text d2 ++ codes " " ++ offset_text d3 ++ codes " "
        ++ byte_text (d3 % 256)) (codes "*") (len_text d2)
        ∙ append_assoc (codes "write " ++ handle_text d2 ++ codes " " ++ offset_text d3 ++ codes " ")
        (byte_text (d3 % 256)) (codes "*" ++ len_text d2)))
        (write_text (handle_text d2) (offset_text d3)
        (hex_digit ((d3 % 256) / 16) ∷ hex_digit ((d3 % 256) % 16) ∷ 42 ∷ len_text d2) handle (offset_word d3)
        (run_word ((d3 % 256) / 16) ((d3 % 256) % 16) (512 * (1 + (d2 / 2) % 8)) (omega arith) (omega arith)
        (omega arith) (omega arith)))

    by : (k : ℕ) → d1 % 8 ≡ k → k < 8 → IsCommandText (command_text d1 d2 d3)
    by zero e b = rw e opened
    by (suc zero) e b = rw e opened
    by (suc (suc zero)) e b = rw e (alone (handle_text d2) handle)
    by (suc (suc (suc zero))) e b = rw e read
    by (suc (suc (suc (suc zero)))) e b = rw e read
    by (suc (suc (suc (suc (suc zero))))) e b = rw e write
    by (suc (suc (suc (suc (suc (suc zero)))))) e b =
        rw e (delete_text (handle_text d2) (offset_text d3) (len_text d2) handle (offset_word d3) (len_word d2))
    by (suc (suc (suc (suc (suc (suc (suc zero))))))) e b = rw e (flushed (handle_text d2) handle)
    by (suc (suc (suc (suc (suc (suc (suc (suc k)))))))) e b = absurd (omega (arith, b))
