-- The words of each command are clean, are read as the command, and are few where nothing says how many there are.
use Rattle.std.specs.Prelude.{◌≡◌, ◌⊎◌, ℕ, zero, suc, ◌+◌, ◌^◌, ◌<◌, ◌≤◌, ◌&&◌, nat_le, nat_lt, Bool, true, List, [], ◌∷◌, length, map, codes, decimal, Some, Ok, Err, if◌then◌else◌}
use Rattle.std.specs.List.{AllByRecursion, list_all}
use Rattle.std.proofs.Common.{refl, ◌∙◌, ap, arith, inl, inr}
use Rattle.std.proofs.lemmas.Bool.{and_parts, le-leb, leb-true, lt-ltb}
use Rattle.std.proofs.lemmas.List.{length-append}
use Rattle.std.proofs.lemmas.List.Elements.{recursion_from_All}
use Rattle.geo_base.specs.Name.{is_name}
use Rattle.geo_base.specs.Runs.{run_text, runs_of}
use Rattle.geo_base.specs.declared.kind.Kind.{Kind}
use Rattle.geo_base.specs.declared.kind.Kind.TheVariants as kinds
use Rattle.geo_base.specs.declared.request.Counts.{Counts}
use Rattle.geo_base.specs.declared.limits.TheConstants.{MAX_COMPONENTS, MAX_LINE_BYTES, MAX_WRITE_LINE_BYTES}
use Rattle.geo_model.specs.declared.command.Cause.TheVariants as causes
use Rattle.geo_model.specs.declared.command.Command.{Command}
use Rattle.geo_model.specs.declared.command.Command.TheVariants as commands
use Rattle.geo_model.specs.Plans.{AreComponents, IsCommand, IsMark, IsNamedClass, IsStripe}
use Rattle.geo_model.specs.Report.{counts_text}
use Rattle.geo_model.specs.Script.{◌>>=◌, Words, beside, by_word, class_names, command_table, counts_of, in_range, long_names, names_within, number_of, ranged, record_count, record_id, record_place, runs_words, stripe_size}
use Rattle.geo_laws_texts.proofs.Clean.{IsClean, is_clean_byte, line_of}
use Rattle.geo_laws_texts.proofs.Numbers.{number_read}
use Rattle.geo_laws_scripts.specs.PlanTexts.{class_text, command_in_words}
use Rattle.geo_laws_scripts.specs.ScriptLaws.{LineHasRoom}
use Rattle.geo_laws_scripts.proofs.WordForms.{IsWordWithin, counts_read, counts_within, name_within, number_within, run_words, short_within}

-- Lengths

-- each word has as many bytes as stand at its place, or fewer
abbrev pub AreWithin : List ℕ → Words → Type 0
AreWithin [] [] = Unit {0}
AreWithin (n ∷ ns) (word ∷ words) = IsWordWithin n word × AreWithin ns words
AreWithin _ _ = ⊥

-- as many bytes, with a space behind each word
abbrev pub room : List ℕ → ℕ
room [] = 0
room (n ∷ ns) = n + 1 + room ns

-- such words make a line that is no longer
pub line_within : (ns : List ℕ) (words : Words) → AreWithin ns words → length (line_of words) ≤ room ns
line_within [] [] within = omega arith
line_within [] (word ∷ words) within = absurd within
line_within (n ∷ ns) [] within = absurd within
line_within (n ∷ []) (word ∷ []) within = let short = within.0.short in omega (arith, short)
line_within (n ∷ m ∷ ns) (word ∷ []) within = absurd within.1
line_within (n ∷ []) (word ∷ next ∷ words) within = absurd within.1
line_within (n ∷ m ∷ ns) (word ∷ next ∷ words) within =
    let short = within.0.short in
    let rest = line_within (m ∷ ns) (next ∷ words) within.1 in
    let long = length-append word (32 ∷ line_of (next ∷ words)) in
    omega (arith, short, rest, long)

-- and they are clean
pub words_clean : (ns : List ℕ) (words : Words) → AreWithin ns words → AllByRecursion IsClean words
words_clean [] [] within = tt
words_clean [] (word ∷ words) within = absurd within
words_clean (n ∷ ns) [] within = absurd within
words_clean (n ∷ ns) (word ∷ words) within = (within.0.clean, words_clean ns words within.1)

-- a line of so many bytes isn't too long: MAX_LINE_BYTES, or MAX_WRITE_LINE_BYTES where the command is `write`
abbrev pub IsLength : List ℕ → ℕ → Type 0
IsLength first n = (n ≤ MAX_LINE_BYTES) ⊎ ((n ≤ MAX_WRITE_LINE_BYTES) × (first ≡ codes "write"))

-- the words of a command, behind the name of an actor
pub record AreCommandWords (c : Command) (words : Words) : Type 0 where
  pub first : List ℕ
  pub others : Words
  pub are : words ≡ first ∷ others
  pub clean : AllByRecursion IsClean (first ∷ others)
  pub reads : by_word command_table (first ∷ others) ≡ Ok c
  pub long : (n : ℕ) → LineHasRoom c n → n ≤ 17 + length (line_of (first ∷ others)) → IsLength first n

-- where there are few words, they leave room
few : (ns : List ℕ) (words : Words) (first : List ℕ) → AreWithin ns words → room ns ≤ 238 → (n : ℕ)
    → n ≤ 17 + length (line_of words) → IsLength first n
few ns words first within small n most =
    let line = line_within ns words within in inl (omega (arith, line, small, most))

-- a word that is written as it stands, of at most eight bytes
pub literal : (word : List ℕ)
    → (nat_le 1 (length word) && (nat_le (length word) 8 && list_all is_clean_byte word)) ≡ true
    → IsWordWithin 8 word
literal word is =
    let first = and_parts (nat_le 1 (length word)) _ is in
    let second = and_parts (nat_le (length word) 8) (list_all is_clean_byte word) first.1 in
    record {
      clean = record {
        some_byte = let some : 1 ≤ length word = leb-true 1 (length word) first.0 in omega (arith, some);
        bytes = second.1;
      };
      short = leb-true (length word) 8 second.0;
    }

-- few words that are read as a command
few_words : (c : Command) (ns : List ℕ) (first : List ℕ) (others : Words) → AreWithin ns (first ∷ others)
    → room ns ≤ 238 → by_word command_table (first ∷ others) ≡ Ok c → AreCommandWords c (first ∷ others)
few_words c ns first others within small reads = record {
  first = first;
  others = others;
  are = refl;
  clean = words_clean ns (first ∷ others) within;
  reads = reads;
  long = λ n fits most. few ns (first ∷ others) first within small n most;
}

-- Readers

-- a number that passes its test
pub ranged_read : (test : ℕ → Bool) (n : ℕ) (words : Words) → n < 2 ^ 64 → test n ≡ true
    → ranged test (decimal n ∷ words) ≡ Ok (n, words)
ranged_read test n words fits passes =
    ap (in_range test words) (number_read n fits) ∙ ap (λ t. if t then Ok (n, words) else Err causes.Range) passes

-- an id, a place, a count and a stripe size
id_read : (n : ℕ) (words : Words) → n < 2 ^ 32 → record_id (decimal n ∷ words) ≡ Ok (n, words)
id_read n words fits = ranged_read _ n words (omega (arith, fits)) (lt-ltb n (2 ^ 32) fits)

place_read : (n : ℕ) (words : Words) → n < 2 ^ 16 → record_place (decimal n ∷ words) ≡ Ok (n, words)
place_read n words fits = ranged_read _ n words (omega (arith, fits)) (lt-ltb n (2 ^ 16) fits)

count_read : (n : ℕ) (words : Words) → 1 ≤ n → n ≤ MAX_COMPONENTS → record_count (decimal n ∷ words) ≡ Ok (n, words)
count_read n words some limit =
    ranged_read (λ k. nat_le 1 k && nat_le k MAX_COMPONENTS) n words (omega (arith, limit))
    (rw (le-leb 1 n some, le-leb n MAX_COMPONENTS limit) refl)

stripe_read : (n : ℕ) (words : Words) → IsStripe n → stripe_size (decimal n ∷ words) ≡ Ok (n, words)
stripe_read n words is =
    let limit = is.limited in
    ranged_read (λ k. nat_le 1 k && nat_lt k (2 ^ 32)) n words (omega (arith, limit))
    (rw (le-leb 1 n is.some, lt-ltb n (2 ^ 32) is.limited) refl)

-- names to the end of the line
within_read : (n : ℕ) (names : List (List ℕ)) → length names ≤ n → AllByRecursion (λ name. is_name name ≡ true) names
    → names_within n names ≡ Ok names
within_read n [] limit all = refl
within_read zero (name ∷ names) limit all = absurd (omega (arith, limit))
within_read (suc n) (name ∷ names) limit all =
    let rest : names_within n names ≡ Ok names = within_read n names (omega (arith, limit)) all.1 in
    rw (all.0, rest) refl

names_read : (names : List (List ℕ)) → AreComponents names → long_names names ≡ Ok (names, [])
names_read names are =
    by names are.some are.not_many (recursion_from_All (λ name. is_name name ≡ true) names are.each)
  where
    by : (xs : List (List ℕ)) → 1 ≤ length xs → length xs ≤ MAX_COMPONENTS
        → AllByRecursion (λ name. is_name name ≡ true) xs
        → long_names xs ≡ Ok (xs, [])
    by [] some limit all = absurd (omega arith)
    by (x ∷ xs) some limit all = ap (λ r. r >>= λ ns. Ok (ns, [])) (within_read MAX_COMPONENTS (x ∷ xs) limit all)

-- they are clean
names_clean : (names : List (List ℕ)) → AllByRecursion (λ name. is_name name ≡ true) names
    → AllByRecursion IsClean names
names_clean [] all = tt
names_clean (name ∷ names) all = ((name_within name all.0).clean, names_clean names all.1)

-- Commands

-- what each command is written as
abbrev Written : Command → Type 0
Written c = IsCommand c → AreCommandWords c (command_in_words c)

open_are : (h prov : List ℕ) (grant : Counts) → Written (commands.Open h prov grant)
open_are h prov grant is =
    few_words (commands.Open h prov grant) (8 ∷ 16 ∷ 63 ∷ 6 ∷ []) (codes "open") (h ∷ prov ∷ counts_text grant ∷ [])
    (literal (codes "open") refl, (short_within h is.0, (name_within prov is.1, (counts_within grant is.2, tt))))
    (omega arith) (by (counts_text grant) (counts_read grant is.2))
  where
    by : (word : List ℕ) → counts_of word ≡ Some grant
        → by_word command_table (codes "open" ∷ h ∷ prov ∷ word ∷ []) ≡ Ok (commands.Open h prov grant)
    by word e = rw (is.0, is.1, e) refl

close_are : (h : List ℕ) → Written (commands.Close h)
close_are h is =
    few_words (commands.Close h) (8 ∷ 16 ∷ []) (codes "close") (h ∷ [])
    (literal (codes "close") refl, (short_within h is, tt)) (omega arith) (rw is refl)

read_are : (h : List ℕ) (off len : ℕ) → Written (commands.Read h off len)
read_are h off len is =
    few_words (commands.Read h off len) (8 ∷ 16 ∷ 20 ∷ 20 ∷ []) (codes "read") (h ∷ decimal off ∷ decimal len ∷ [])
    (literal (codes "read") refl, (short_within h is.0, (number_within off is.1, (number_within len is.2, tt))))
    (omega arith) (by (decimal off) (decimal len) (number_read off is.1) (number_read len is.2))
  where
    by : (o l : List ℕ) → number_of o ≡ Some off → number_of l ≡ Some len
        → by_word command_table (codes "read" ∷ h ∷ o ∷ l ∷ []) ≡ Ok (commands.Read h off len)
    by o l first second = rw (is.0, first, second) refl

delete_are : (h : List ℕ) (off len : ℕ) → Written (commands.Delete h off len)
delete_are h off len is =
    few_words (commands.Delete h off len) (8 ∷ 16 ∷ 20 ∷ 20 ∷ []) (codes "delete") (h ∷ decimal off ∷ decimal len ∷ [])
    (literal (codes "delete") refl, (short_within h is.0, (number_within off is.1, (number_within len is.2, tt))))
    (omega arith) (by (decimal off) (decimal len) (number_read off is.1) (number_read len is.2))
  where
    by : (o l : List ℕ) → number_of o ≡ Some off → number_of l ≡ Some len
        → by_word command_table (codes "delete" ∷ h ∷ o ∷ l ∷ []) ≡ Ok (commands.Delete h off len)
    by o l first second = rw (is.0, first, second) refl

write_are : (h : List ℕ) (off : ℕ) (bytes : List ℕ) → Written (commands.Write h off bytes)
write_are h off bytes is =
    let runs = run_words bytes is.2 in
    record {
      first = codes "write";
      others = h ∷ decimal off ∷ map run_text (runs_of bytes);
      are = refl;
      clean = (
        (literal (codes "write") refl).clean,
        ((short_within h is.0).clean, ((number_within off is.1).clean, runs.clean)),
      );
      reads = by (decimal off) (map run_text (runs_of bytes)) (number_read off is.1) runs.reads;
      long = λ n fits most. inr (fits, refl);
    }
  where
    by : (o : List ℕ) (words : Words) → number_of o ≡ Some off → runs_words words ≡ Ok (bytes, [])
        → by_word command_table (codes "write" ∷ h ∷ o ∷ words) ≡ Ok (commands.Write h off bytes)
    by o words first second = rw (is.0, first, second) refl

flush_are : (h : List ℕ) → Written (commands.Flush h)
flush_are h is =
    few_words (commands.Flush h) (8 ∷ 16 ∷ []) (codes "flush") (h ∷ [])
    (literal (codes "flush") refl, (short_within h is, tt)) (omega arith) (rw is refl)

insert_are : (disk : List ℕ) → Written (commands.Insert disk)
insert_are disk is =
    few_words (commands.Insert disk) (8 ∷ 16 ∷ []) (codes "insert") (disk ∷ [])
    (literal (codes "insert") refl, (short_within disk is, tt)) (omega arith) (rw is refl)

pull_are : (disk : List ℕ) → Written (commands.Pull disk)
pull_are disk is =
    few_words (commands.Pull disk) (8 ∷ 16 ∷ []) (codes "pull") (disk ∷ [])
    (literal (codes "pull") refl, (short_within disk is, tt)) (omega arith) (rw is refl)

-- a command without words behind it
alone : (c : Command) (word : List ℕ) → IsWordWithin 8 word → by_word command_table (word ∷ []) ≡ Ok c
    → AreCommandWords c (word ∷ [])
alone c word within reads = few_words c (8 ∷ []) word [] (within, tt) (omega arith) reads

nop_are : (prov : List ℕ) (off size fail : ℕ) → Written (commands.Nop prov off size fail)
nop_are prov off size fail is =
    few_words (commands.Nop prov off size fail) (8 ∷ 63 ∷ 20 ∷ 20 ∷ 20 ∷ []) (codes "nop")
    (prov ∷ decimal off ∷ decimal size ∷ decimal fail ∷ []) (
      literal (codes "nop") refl,
      (name_within prov is.0, (number_within off is.1, (number_within size is.2, (number_within fail is.3, tt)))),
    )
    (omega arith)
    (by (decimal off) (decimal size) (decimal fail) (number_read off is.1) (number_read size is.2)
    (number_read fail is.3))
  where
    by : (o s f : List ℕ) → number_of o ≡ Some off → number_of s ≡ Some size → number_of f ≡ Some fail
        → by_word command_table (codes "nop" ∷ prov ∷ o ∷ s ∷ f ∷ []) ≡ Ok (commands.Nop prov off size fail)
    by o s f first second third = rw (is.0, first, second, third) refl

concat_are : (name : List ℕ) (provs : List (List ℕ)) → Written (commands.Concat name provs)
concat_are name provs is = record {
  first = codes "concat";
  others = name ∷ provs;
  are = refl;
  clean = (
    (literal (codes "concat") refl).clean,
    (
      (short_within name is.0).clean,
      names_clean provs (recursion_from_All (λ prov. is_name prov ≡ true) provs is.1.each),
    ),
  );
  reads = by provs (names_read provs is.1);
  long = λ n fits most. inl fits;
}
  where
    by : (words : Words) → long_names words ≡ Ok (provs, [])
        → by_word command_table (codes "concat" ∷ name ∷ words) ≡ Ok (commands.Concat name provs)
    by words e = rw (is.0, e) refl

stripe_are : (name : List ℕ) (stripe : ℕ) (provs : List (List ℕ)) → Written (commands.Stripe name stripe provs)
stripe_are name stripe provs is =
    let limit = is.1.limited in
    record {
      first = codes "stripe";
      others = name ∷ decimal stripe ∷ provs;
      are = refl;
      clean = (
        (literal (codes "stripe") refl).clean,
        (
          (short_within name is.0).clean,
          (
            (number_within stripe (omega (arith, limit))).clean,
            names_clean provs (recursion_from_All (λ prov. is_name prov ≡ true) provs is.2.each),
          ),
        ),
      );
      reads = by (decimal stripe ∷ provs) provs (stripe_read stripe provs is.1) (names_read provs is.2);
      long = λ n fits most. inl fits;
    }
  where
    by : (words more : Words) → stripe_size words ≡ Ok (stripe, more) → long_names more ≡ Ok (provs, [])
        → by_word command_table (codes "stripe" ∷ name ∷ words) ≡ Ok (commands.Stripe name stripe provs)
    by words more first second = rw (is.0, first, second) refl

append_are : (name prov : List ℕ) → Written (commands.Append name prov)
append_are name prov is =
    few_words (commands.Append name prov) (8 ∷ 16 ∷ 63 ∷ []) (codes "append") (name ∷ prov ∷ [])
    (literal (codes "append") refl, (short_within name is.0, (name_within prov is.1, tt)))
    (omega arith) (rw (is.0, is.1) refl)

-- a class's word
class_is : (class : Kind) → IsNamedClass class
    → IsWordWithin 8 (class_text class) × (beside class_names (class_text class) ≡ Some class)
class_is kinds.Mbr is = (literal (codes "mbr") refl, refl)
class_is kinds.Ebr is = (literal (codes "ebr") refl, refl)
class_is kinds.Label is = (literal (codes "label") refl, refl)
class_is kinds.Concat is = (literal (codes "concat") refl, refl)
class_is kinds.Stripe is = (literal (codes "stripe") refl, refl)
class_is kinds.Nop is = (literal (codes "nop") refl, refl)
class_is _ (inl e) = absurd cc
class_is _ (inr e) = absurd cc

destroy_are : (class : Kind) (geom : List ℕ) → Written (commands.Destroy class geom)
destroy_are class geom is =
    few_words (commands.Destroy class geom) (8 ∷ 8 ∷ 63 ∷ []) (codes "destroy") (class_text class ∷ geom ∷ [])
    (literal (codes "destroy") refl, ((class_is class is.0).0, (name_within geom is.1, tt)))
    (omega arith) (by (class_text class) (class_is class is.0).1)
  where
    by : (word : List ℕ) → beside class_names word ≡ Some class
        → by_word command_table (codes "destroy" ∷ word ∷ geom ∷ []) ≡ Ok (commands.Destroy class geom)
    by word e = rw (e, is.1) refl

label_are : (h name : List ℕ) → Written (commands.Label h name)
label_are h name is =
    few_words (commands.Label h name) (8 ∷ 16 ∷ 16 ∷ []) (codes "label") (h ∷ name ∷ [])
    (literal (codes "label") refl, (short_within h is.0, (short_within name is.1, tt)))
    (omega arith) (rw (is.0, is.1) refl)

relabel_are : (h name : List ℕ) → Written (commands.Relabel h name)
relabel_are h name is =
    few_words (commands.Relabel h name) (8 ∷ 16 ∷ 16 ∷ []) (codes "relabel") (h ∷ name ∷ [])
    (literal (codes "relabel") refl, (short_within h is.0, (short_within name is.1, tt)))
    (omega arith) (rw (is.0, is.1) refl)

-- the words of a record's numbers
mark_numbers : (id place count : ℕ) → IsMark id place count
    → IsWordWithin 20 (decimal id) × IsWordWithin 20 (decimal place) × IsWordWithin 20 (decimal count)
mark_numbers id place count is =
    let a = is.id_fits in
    let b = is.place_fits in
    let c = is.few_places in (
      number_within id (omega (arith, a)),
      number_within place (omega (arith, b)),
      number_within count (omega (arith, c)),
    )

mark_concat_are : (h name : List ℕ) (id place count : ℕ) → Written (commands.MarkConcat h name id place count)
mark_concat_are h name id place count is =
    let numbers = mark_numbers id place count is.2 in
    few_words (commands.MarkConcat h name id place count) (8 ∷ 16 ∷ 8 ∷ 16 ∷ 20 ∷ 20 ∷ 20 ∷ []) (codes "mark")
    (h ∷ codes "concat" ∷ name ∷ decimal id ∷ decimal place ∷ decimal count ∷ []) (
      literal (codes "mark") refl,
      (
        short_within h is.0,
        (literal (codes "concat") refl, (short_within name is.1, (numbers.0, (numbers.1, (numbers.2, tt))))),
      ),
    )
    (omega arith)
    (by (decimal id ∷ decimal place ∷ decimal count ∷ []) (decimal place ∷ decimal count ∷ []) (decimal count ∷ [])
    (id_read id _ is.2.id_fits) (place_read place _ is.2.place_fits)
    (count_read count [] is.2.some_place is.2.few_places))
  where
    by : (words more last : Words) → record_id words ≡ Ok (id, more) → record_place more ≡ Ok (place, last)
        → record_count last ≡ Ok (count, [])
        → by_word command_table (codes "mark" ∷ h ∷ codes "concat" ∷ name ∷ words)
        ≡ Ok (commands.MarkConcat h name id place count)
    by words more last first second third = rw (is.0, is.1, first, second, third) refl

mark_stripe_are : (h name : List ℕ) (id place count stripe : ℕ)
    → Written (commands.MarkStripe h name id place count stripe)
mark_stripe_are h name id place count stripe is =
    let numbers = mark_numbers id place count is.2 in
    let limit = is.3.limited in
    few_words (commands.MarkStripe h name id place count stripe) (8 ∷ 16 ∷ 8 ∷ 16 ∷ 20 ∷ 20 ∷ 20 ∷ 20 ∷ [])
    (codes "mark")
    (h ∷ codes "stripe" ∷ name ∷ decimal id ∷ decimal place ∷ decimal count ∷ decimal stripe ∷ []) (
      literal (codes "mark") refl,
      (
        short_within h is.0,
        (
          literal (codes "stripe") refl,
          (
            short_within name is.1,
            (numbers.0, (numbers.1, (numbers.2, (number_within stripe (omega (arith, limit)), tt)))),
          ),
        ),
      ),
    )
    (omega arith)
    (by (decimal id ∷ decimal place ∷ decimal count ∷ decimal stripe ∷ [])
    (decimal place ∷ decimal count ∷ decimal stripe ∷ []) (decimal count ∷ decimal stripe ∷ []) (decimal stripe ∷ [])
    (id_read id _ is.2.id_fits) (place_read place _ is.2.place_fits)
    (count_read count (decimal stripe ∷ []) is.2.some_place is.2.few_places) (stripe_read stripe [] is.3))
  where
    by : (words more next last : Words) → record_id words ≡ Ok (id, more) → record_place more ≡ Ok (place, next)
        → record_count next ≡ Ok (count, last) → stripe_size last ≡ Ok (stripe, [])
        → by_word command_table (codes "mark" ∷ h ∷ codes "stripe" ∷ name ∷ words)
        ≡ Ok (commands.MarkStripe h name id place count stripe)
    by words more next last first second third fourth = rw (is.0, is.1, first, second, third, fourth) refl

-- each command's words
pub command_words : (c : Command) → IsCommand c → AreCommandWords c (command_in_words c)
command_words (commands.Open h prov grant) is = open_are h prov grant is
command_words (commands.Close h) is = close_are h is
command_words (commands.Read h off len) is = read_are h off len is
command_words (commands.Write h off bytes) is = write_are h off bytes is
command_words (commands.Delete h off len) is = delete_are h off len is
command_words (commands.Flush h) is = flush_are h is
command_words commands.Sync is = alone commands.Sync (codes "sync") (literal (codes "sync") refl) refl
command_words commands.Settle is = alone commands.Settle (codes "settle") (literal (codes "settle") refl) refl
command_words (commands.Insert disk) is = insert_are disk is
command_words (commands.Pull disk) is = pull_are disk is
command_words (commands.Nop prov off size fail) is = nop_are prov off size fail is
command_words (commands.Concat name provs) is = concat_are name provs is
command_words (commands.Stripe name stripe provs) is = stripe_are name stripe provs is
command_words (commands.Append name prov) is = append_are name prov is
command_words (commands.Destroy class geom) is = destroy_are class geom is
command_words (commands.Label h name) is = label_are h name is
command_words (commands.Relabel h name) is = relabel_are h name is
command_words (commands.MarkConcat h name id place count) is = mark_concat_are h name id place count is
command_words (commands.MarkStripe h name id place count stripe) is = mark_stripe_are h name id place count stripe is
command_words commands.Mesh is = alone commands.Mesh (codes "mesh") (literal (codes "mesh") refl) refl
