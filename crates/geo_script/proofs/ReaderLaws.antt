-- What the readers of a line give has its form.
use Rattle.std.proofs.Common.{◌≡◌, ◌≢◌, ◌⊎◌, inl, inr, ℕ, zero, suc, ◌-◌, ◌*◌, ◌^◌, ◌<◌, ◌≤◌, ◌==◌, ◌&&◌, ◌||◌, nat_lt, nat_le, Bool, true, false, not, List, [], ◌∷◌, length, Option, Some, None, option_and_then, Result, Ok, Err, refl, arith, if◌then◌else◌, codes, IsTrue, subst}
use Rattle.std.specs.List.{All}
use Rattle.std.specs.Option.{option_map_or}
use Rattle.std.proofs.lemmas.Bool.Decides.{nat_tests}
use Rattle.std.proofs.lemmas.List.Elements.{All-nil, All-cons}
use Rattle.std.proofs.lemmas.Bool.{ltb-true}
use Rattle.geo_base.specs.Name.{is_name, is_short_name}
use Rattle.geo_base.specs.Sectors.{IsSectorSize}
use Rattle.geo_base.specs.declared.request.Counts.{Counts}
use Rattle.geo_base.specs.declared.limits.TheConstants.{MAX_COMPONENTS, MAX_MEMORY_DISK_BYTES}
use Rattle.geo_model.specs.declared.command.Cause.{Cause}
use Rattle.geo_model.specs.declared.command.Cause.TheVariants as causes
use Rattle.geo_model.specs.declared.command.Command.TheVariants as commands
use Rattle.geo_model.specs.declared.command.DiskKind.TheVariants as disk_kinds
use Rattle.geo_model.specs.Words.{same_name}
use Rattle.geo_model.specs.Plans.{IsShortName, IsProviderName, IsWord64, IsGrant, IsRunsBytes, AreComponents, IsMark, IsStripe, IsNamedClass, IsCommand, IsDiskDecl}
use Rattle.geo_model.specs.Script.{◌>>=◌, Words, is_digit, is_decimal, value_of, number_of, runs_in, fitting_bytes, found_or, tested, short_name, long_name, in_range, ranged, any_number, sector_size, sector_count, record_id, record_count, record_place, stripe_size, counts_of, counts_word, runs_words, class_names, beside, class_word, names_within, long_names, at_end, by_word, open_words, close_words, read_words, write_words, delete_words, flush_words, insert_words, pull_words, nop_words, concat_words, stripe_words, append_words, destroy_words, label_words, relabel_words, mark_concat_words, mark_stripe_words, mark_words, command_table, later_word, ram_words, disk_words, actor_words}
use Rattle.geo_script.specs.Tables.{geom_commands}
use Rattle.geo_script.proofs.RunsAgree.{read-bytes}

-- what a reader gives has this property
abbrev pub Gives : {A : Type 0} → (A → Type 0) → Result A Cause → Type 0
Gives P (Ok x) = P x
Gives P (Err cause) = Unit {0}

-- two readers one after the other
pub after : {A B : Type 0} (P : A → Type 0) (Q : B → Type 0) (r : Result A Cause) (f : A → Result B Cause)
    → Gives P r → ((x : A) → P x → Gives Q (f x)) → Gives Q (r >>= f)
after P Q (Ok x) f h more = more x h
after P Q (Err cause) f h more = tt

-- a value at the end of a line is that value
pub at_end-gives : {A : Type 0} (P : A → Type 0) (x : A) (ws : Words) → P x → Gives P (at_end x ws)
at_end-gives P x [] h = h
at_end-gives P x (word ∷ words) h = tt

-- the value of a reader, without the words that are left
abbrev pub OfValue : {A : Type 0} → (A → Type 0) → A × Words → Type 0
OfValue P x = P x.0

-- a value that is found has what each such value has
found-gives : {A : Type 0} (P : A → Type 0) (cause : Cause) (ws : Words) (o : Option A)
    → ((x : A) → o ≡ Some x → P x) → Gives (OfValue P) (found_or cause ws o)
found-gives P cause ws None h = tt
found-gives P cause ws (Some x) h = h x refl

-- Tables of words

-- what stands beside the words of a table has this property
abbrev pub EachRow : {A : Type 0} → (A → Type 0) → List (List ℕ × A) → Type 0
EachRow P [] = Unit {0}
EachRow P (row ∷ rows) = P row.1 × EachRow P rows

-- what is found in a table is one of its rows
pub beside-all : {A : Type 0} (P : A → Type 0) (table : List (List ℕ × A)) (word : List ℕ) (x : A)
    → EachRow P table → beside table word ≡ Some x → P x
beside-all P [] word x each e = absurd (cc)
beside-all P (row ∷ rows) word x each e = into (same_name row.0 word) (beside-all P rows word x each.1) e
  where
    into : (t : Bool) → (beside rows word ≡ Some x → P x) → (if t then Some row.1 else beside rows word) ≡ Some x → P x
    into true more e = let same : row.1 ≡ x = cc in subst P same each.0
    into false more e = more e

-- a reader gives what has this property
abbrev pub Reader : {A : Type 0} → (A → Type 0) → (Words → Result A Cause) → Type 0
Reader P read = (ws : Words) → Gives P (read ws)

-- a table of readers is a reader
pub by_word-gives : {A : Type 0} (P : A → Type 0) (table : List (List ℕ × (Words → Result A Cause)))
    → EachRow (Reader P) table → Reader P (by_word table)
by_word-gives P table each [] = tt
by_word-gives {A = A} P table each (word ∷ words) =
    into (beside table word) (λ read e. beside-all (Reader P) table word read each e)
  where
    into : (o : Option (Words → Result A Cause))
        → ((read : Words → Result A Cause) → o ≡ Some read → Reader P read)
        → Gives P (option_map_or (λ read. read words) o (Err causes.Word))
    into None h = tt
    into (Some read) h = h read refl words

-- Names and numbers

-- a word that is read passes the test
tested-gives : (test : List ℕ → Bool) (cause : Cause) (ws : Words)
    → Gives (OfValue (λ word. IsTrue (test word))) (tested test cause ws)
tested-gives test cause [] = tt
tested-gives test cause (word ∷ words) = into (test word) refl
  where
    into : (t : Bool) → test word ≡ t
        → Gives (OfValue (λ word. IsTrue (test word)))
        (if◌then◌else◌ {A = Result (List ℕ × Words) Cause} t (Ok (word, words)) (Err cause))
    into true e = e
    into false e = tt

-- a short name is one
pub short_name-gives : (ws : Words) → Gives (OfValue IsShortName) (short_name ws)
short_name-gives ws = tested-gives is_short_name causes.Name ws

-- a name is one
pub long_name-gives : (ws : Words) → Gives (OfValue IsProviderName) (long_name ws)
long_name-gives ws = tested-gives is_name causes.Name ws

-- a number that passes the test and has at most 64 bits
abbrev InRange : (ℕ → Bool) → ℕ → Type 0
InRange test n = (test n ≡ true) × IsWord64 n

-- a number has at most 64 bits
number-fits : (word : List ℕ) (n : ℕ) → number_of word ≡ Some n → IsWord64 n
number-fits word n e = into (is_decimal word) (nat_lt (value_of word) (2 ^ 64)) refl e
  where
    into : (d t : Bool) → nat_lt (value_of word) (2 ^ 64) ≡ t
        → (if d && t then Some (value_of word) else None) ≡ Some n → n < 2 ^ 64
    into true true t e = let same : value_of word ≡ n = cc in
        subst (λ (m : ℕ). m < 2 ^ 64) same (below (value_of word) t)
      where
        below : (v : ℕ) → nat_lt v (2 ^ 64) ≡ true → v < 2 ^ 64
        below v t = grind (arith, nat_tests)
    into true false t e = absurd (cc)
    into false true t e = absurd (cc)
    into false false t e = absurd (cc)

-- a number of a range lies in it
ranged-gives : (test : ℕ → Bool) (ws : Words) → Gives (OfValue (InRange test)) (ranged test ws)
ranged-gives test [] = tt
ranged-gives test (word ∷ words) = into (number_of word) (λ n e. number-fits word n e)
  where
    tried : (n : ℕ) (t : Bool) → test n ≡ t → IsWord64 n
        → Gives (OfValue (InRange test))
        (if◌then◌else◌ {A = Result (ℕ × Words) Cause} t (Ok (n, words)) (Err causes.Range))
    tried n true e fits = (e, fits)
    tried n false e fits = tt

    into : (o : Option ℕ) → ((n : ℕ) → o ≡ Some n → IsWord64 n) → Gives (OfValue (InRange test)) (in_range test words o)
    into None h = tt
    into (Some n) h = tried n (test n) refl (h n refl)

-- what is read has what follows from what it has
weaker : {A : Type 0} (P Q : A → Type 0) (r : Result A Cause) → ((x : A) → P x → Q x) → Gives P r → Gives Q r
weaker P Q (Ok x) h g = h x g
weaker P Q (Err cause) h g = tt

-- a number has at most 64 bits
pub any_number-gives : (ws : Words) → Gives (OfValue IsWord64) (any_number ws)
any_number-gives ws =
    weaker (OfValue (InRange (λ n. true))) (OfValue IsWord64) (any_number ws) (λ x h. h.1) (ranged-gives (λ n. true) ws)

-- the test of a sector size
sector-one : (n : ℕ) → ((n == 512) || (n == 4096)) ≡ true → IsSectorSize n
sector-one n e = into (n == 512) refl (n == 4096) refl e
  where
    same : (k : ℕ) → (n == k) ≡ true → n ≡ k
    same k e = grind (arith, nat_tests)

    into : (a : Bool) → (n == 512) ≡ a → (b : Bool) → (n == 4096) ≡ b → (a || b) ≡ true → IsSectorSize n
    into true ea b eb e = inl (same 512 ea)
    into false ea true eb e = inr (same 4096 eb)
    into false ea false eb e = absurd (cc)

-- a sector size is one of the two
pub sector_size-gives : (ws : Words) → Gives (OfValue IsSectorSize) (sector_size ws)
sector_size-gives ws =
    weaker (OfValue (InRange (λ n. (n == 512) || (n == 4096)))) (OfValue IsSectorSize) (sector_size ws)
    (λ x h. sector-one x.0 h.0) (ranged-gives (λ n. (n == 512) || (n == 4096)) ws)

-- the sectors of a disk in memory
abbrev pub IsSectorCount : ℕ → ℕ → Type 0
IsSectorCount sector n = (1 ≤ n) × (n * sector ≤ MAX_MEMORY_DISK_BYTES)

-- two tests of an order at once
two_tests : (a b c d : ℕ) → (nat_le a b && nat_le c d) ≡ true → (a ≤ b) × (c ≤ d)
two_tests a b c d e = (grind (arith, nat_tests), grind (arith, nat_tests))

-- the same for a strict second one
le_and_lt : (a b c d : ℕ) → (nat_le a b && nat_lt c d) ≡ true → (a ≤ b) × (c < d)
le_and_lt a b c d e = (grind (arith, nat_tests), grind (arith, nat_tests))

-- the sectors of a disk in memory are few
pub sector_count-gives : (sector : ℕ) (ws : Words) → Gives (OfValue (IsSectorCount sector)) (sector_count sector ws)
sector_count-gives sector ws =
    weaker (OfValue (InRange (λ n. nat_le 1 n && nat_le (n * sector) MAX_MEMORY_DISK_BYTES)))
    (OfValue (IsSectorCount sector))
    (sector_count sector ws) (λ x h. two_tests 1 x.0 (x.0 * sector) MAX_MEMORY_DISK_BYTES h.0)
    (ranged-gives (λ n. nat_le 1 n && nat_le (n * sector) MAX_MEMORY_DISK_BYTES) ws)

-- an id fits 32 bits
pub record_id-gives : (ws : Words) → Gives (OfValue (λ n. n < 2 ^ 32)) (record_id ws)
record_id-gives ws =
    weaker (OfValue (InRange (λ n. nat_lt n (2 ^ 32)))) (OfValue (λ n. n < 2 ^ 32)) (record_id ws)
    (λ x h. ltb-true x.0 (2 ^ 32) h.0) (ranged-gives (λ n. nat_lt n (2 ^ 32)) ws)

-- a place fits 16 bits
pub record_place-gives : (ws : Words) → Gives (OfValue (λ n. n < 2 ^ 16)) (record_place ws)
record_place-gives ws =
    weaker (OfValue (InRange (λ n. nat_lt n (2 ^ 16)))) (OfValue (λ n. n < 2 ^ 16)) (record_place ws)
    (λ x h. ltb-true x.0 (2 ^ 16) h.0) (ranged-gives (λ n. nat_lt n (2 ^ 16)) ws)

-- 1 to 16
abbrev pub IsCount : ℕ → Type 0
IsCount n = (1 ≤ n) × (n ≤ MAX_COMPONENTS)

-- a count is 1 to 16
pub record_count-gives : (ws : Words) → Gives (OfValue IsCount) (record_count ws)
record_count-gives ws =
    weaker (OfValue (InRange (λ n. nat_le 1 n && nat_le n MAX_COMPONENTS))) (OfValue IsCount) (record_count ws)
    (λ x h. two_tests 1 x.0 x.0 MAX_COMPONENTS h.0) (ranged-gives (λ n. nat_le 1 n && nat_le n MAX_COMPONENTS) ws)

-- a stripe size is 1 or more and fits 32 bits
pub stripe_size-gives : (ws : Words) → Gives (OfValue IsStripe) (stripe_size ws)
stripe_size-gives ws =
    weaker (OfValue (InRange (λ n. nat_le 1 n && nat_lt n (2 ^ 32)))) (OfValue IsStripe) (stripe_size ws)
    (λ x h. let told = le_and_lt 1 x.0 x.0 (2 ^ 32) h.0 in record { some = told.0; limited = told.1 })
    (ranged-gives (λ n. nat_le 1 n && nat_lt n (2 ^ 32)) ws)

-- Counts, classes, runs and components

-- digits that aren't all zero
some-count : (a b c : ℕ) → 48 ≤ a → 48 ≤ b → 48 ≤ c → not ((a == 48) && ((b == 48) && (c == 48))) ≡ true
    → (a - 48 ≢ 0) ⊎ (b - 48 ≢ 0) ⊎ (c - 48 ≢ 0)
some-count a b c la lb lc e = into (a == 48) refl (b == 48) refl (c == 48) refl e
  where
    other : (n : ℕ) → 48 ≤ n → (n == 48) ≡ false → n - 48 ≢ 0
    other n low t = let apart : n ≢ 48 = grind (arith, nat_tests) in λ none. absurd (apart (omega arith))

    into : (p : Bool) → (a == 48) ≡ p → (q : Bool) → (b == 48) ≡ q → (r : Bool) → (c == 48) ≡ r
        → not (p && (q && r)) ≡ true → (a - 48 ≢ 0) ⊎ (b - 48 ≢ 0) ⊎ (c - 48 ≢ 0)
    into false ea q eb r ec e = inl (other a la ea)
    into true ea false eb r ec e = inr (inl (other b lb eb))
    into true ea true eb false ec e = inr (inr (other c lc ec))
    into true ea true eb true ec e = absurd (cc)

-- the counts of three digits
abbrev counts_at : ℕ → ℕ → ℕ → Counts
counts_at a b c = record { r = a - 48; w = b - 48; e = c - 48 }

-- the test of a digit
digit-range : (a : ℕ) → is_digit a ≡ true → (48 ≤ a) × (a ≤ 57)
digit-range a e = two_tests 48 a a 57 e

-- the last four of seven tests at once
six_true : (p q r s t u v : Bool) → (p && (q && (r && (s && (t && (u && v)))))) ≡ true → (s ≡ true) × (t ≡ true)
    × (u ≡ true) × (v ≡ true)
six_true true true true true true true v e = (refl, refl, refl, e)
six_true true true true true true false v e = absurd (cc)
six_true true true true true false u v e = absurd (cc)
six_true true true true false t u v e = absurd (cc)
six_true true true false s t u v e = absurd (cc)
six_true true false r s t u v e = absurd (cc)
six_true false q r s t u v e = absurd (cc)

-- counts that are read are of one digit and not all zero
counts-grant : (word : List ℕ) (g : Counts) → counts_of word ≡ Some g → IsGrant g
counts-grant [] g e = absurd (cc)
counts-grant (r ∷ []) g e = absurd (cc)
counts-grant (r ∷ a ∷ []) g e = absurd (cc)
counts-grant (r ∷ a ∷ w ∷ []) g e = absurd (cc)
counts-grant (r ∷ a ∷ w ∷ b ∷ []) g e = absurd (cc)
counts-grant (r ∷ a ∷ w ∷ b ∷ x ∷ []) g e = absurd (cc)
counts-grant (r ∷ a ∷ w ∷ b ∷ x ∷ c ∷ d ∷ ds) g e = absurd (cc)
counts-grant (r ∷ a ∷ w ∷ b ∷ x ∷ c ∷ []) g e =
    into ((r == 114)
    && ((w == 119)
    && ((x == 101)
    && (is_digit a && (is_digit b && (is_digit c && not ((a == 48) && ((b == 48) && (c == 48))))))))) refl e
  where
    into : (t : Bool)
        → ((r == 114)
        && ((w == 119)
        && ((x == 101)
        && (is_digit a
        && (is_digit b && (is_digit c && not ((a == 48) && ((b == 48) && (c == 48))))))))) ≡ t
        → (if t then Some (counts_at a b c) else None) ≡ Some g → IsGrant g
    into false t e = absurd (cc)
    into true t e =
        let same : counts_at a b c ≡ g = cc in
        let told = six_true (r == 114) (w == 119) (x == 101) (is_digit a) (is_digit b) (is_digit c)
        (not ((a == 48) && ((b == 48) && (c == 48)))) t in
        let da = digit-range a told.0 in
        let db = digit-range b told.1 in
        let dc = digit-range c told.2 in
        subst IsGrant same (record {
          r = one_digit a da.1;
          w = one_digit b db.1;
          e = one_digit c dc.1;
          some = some-count a b c da.0 db.0 dc.0 told.3;
        })
      where
        one_digit : (n : ℕ) → n ≤ 57 → n - 48 ≤ 9
        one_digit n h = omega arith

-- the same for the reader of a word
pub counts_word-gives : (ws : Words) → Gives (OfValue IsGrant) (counts_word ws)
counts_word-gives [] = tt
counts_word-gives (word ∷ words) =
    found-gives IsGrant causes.Counts words (counts_of word) (λ g e. counts-grant word g e)

-- each class of the table can be named
class-rows : EachRow IsNamedClass class_names
class-rows = (inl refl, (inl refl, (inl refl, (inl refl, (inl refl, (inr refl, tt))))))

-- a class that is read can be named
pub class_word-gives : (ws : Words) → Gives (OfValue IsNamedClass) (class_word ws)
class_word-gives [] = tt
class_word-gives (word ∷ words) =
    found-gives IsNamedClass causes.Word words (beside class_names word)
    (λ k e. beside-all IsNamedClass class_names word k class-rows e)

-- runs that are read are 1 to 65,536 bytes
pub runs_words-gives : (ws : Words) → Gives (OfValue IsRunsBytes) (runs_words ws)
runs_words-gives [] = tt
runs_words-gives (word ∷ words) =
    found-gives IsRunsBytes causes.Runs [] (option_and_then fitting_bytes (runs_in (word ∷ words)))
    (λ bytes e. let told = read-bytes (word ∷ words) bytes (omega arith) e in
    record { some = told.0; not_long = told.1; each = told.2 })

-- so many names at most, and one where a word stands
record AreNames (n : ℕ) (ws : Words) (names : List (List ℕ)) : Type 0 where
  few : length names ≤ n
  some : 1 ≤ length ws → 1 ≤ length names
  each : All IsProviderName names

-- names within a number are few, and are names
names-give : (n : ℕ) (ws : Words) → Gives (AreNames n ws) (names_within n ws)
names-give zero [] = record { few = omega arith; some = λ h. h; each = All-nil IsProviderName }
names-give (suc n) [] = record { few = omega arith; some = λ h. h; each = All-nil IsProviderName }
names-give zero (word ∷ words) = tt
names-give (suc n) (word ∷ words) = into (is_name word) refl (names_within n words) (names-give n words)
  where
    into : (t : Bool) → is_name word ≡ t → (r : Result (List (List ℕ)) Cause) → Gives (AreNames n words) r
        → Gives (AreNames (suc n) (word ∷ words)) (if t then (r >>= λ names. Ok (word ∷ names)) else Err causes.Name)
    into false t r h = tt
    into true t (Err cause) h = tt
    into true t (Ok names) h =
        let few : length names ≤ n = h.few in
        record { few = omega arith; some = λ _. omega arith; each = All-cons IsProviderName word names t h.each }

-- components are 1 to 16 names
pub long_names-gives : (ws : Words) → Gives (OfValue AreComponents) (long_names ws)
long_names-gives [] = tt
long_names-gives (word ∷ words) =
    after (AreNames MAX_COMPONENTS (word ∷ words)) (OfValue AreComponents) (names_within MAX_COMPONENTS (word ∷ words))
    (λ names. Ok (names, [])) (names-give MAX_COMPONENTS (word ∷ words))
    (λ names h. record { some = h.some (omega arith); not_many = h.few; each = h.each })

-- Commands

-- each command that is read has its form
open-gives : Reader IsCommand open_words
open-gives ws =
    after (OfValue IsShortName) IsCommand (short_name ws) _ (short_name-gives ws) (λ h hs.
    after (OfValue IsProviderName) IsCommand (long_name h.1) _ (long_name-gives h.1) (λ p ps.
    after (OfValue IsGrant) IsCommand (counts_word p.1) _ (counts_word-gives p.1) (λ c cs.
    at_end-gives IsCommand (commands.Open h.0 p.0 c.0) c.1 (hs, ps, cs))))

close-gives : Reader IsCommand close_words
close-gives ws =
    after (OfValue IsShortName) IsCommand (short_name ws) _ (short_name-gives ws)
    (λ h hs. at_end-gives IsCommand (commands.Close h.0) h.1 hs)

read-gives : Reader IsCommand read_words
read-gives ws =
    after (OfValue IsShortName) IsCommand (short_name ws) _ (short_name-gives ws) (λ h hs.
    after (OfValue IsWord64) IsCommand (any_number h.1) _ (any_number-gives h.1) (λ offset os.
    after (OfValue IsWord64) IsCommand (any_number offset.1) _ (any_number-gives offset.1) (λ len ls.
    at_end-gives IsCommand (commands.Read h.0 offset.0 len.0) len.1 (hs, os, ls))))

write-gives : Reader IsCommand write_words
write-gives ws =
    after (OfValue IsShortName) IsCommand (short_name ws) _ (short_name-gives ws) (λ h hs.
    after (OfValue IsWord64) IsCommand (any_number h.1) _ (any_number-gives h.1) (λ offset os.
    after (OfValue IsRunsBytes) IsCommand (runs_words offset.1) _ (runs_words-gives offset.1) (λ bytes bs.
    at_end-gives IsCommand (commands.Write h.0 offset.0 bytes.0) bytes.1 (hs, os, bs))))

delete-gives : Reader IsCommand delete_words
delete-gives ws =
    after (OfValue IsShortName) IsCommand (short_name ws) _ (short_name-gives ws) (λ h hs.
    after (OfValue IsWord64) IsCommand (any_number h.1) _ (any_number-gives h.1) (λ offset os.
    after (OfValue IsWord64) IsCommand (any_number offset.1) _ (any_number-gives offset.1) (λ len ls.
    at_end-gives IsCommand (commands.Delete h.0 offset.0 len.0) len.1 (hs, os, ls))))

flush-gives : Reader IsCommand flush_words
flush-gives ws =
    after (OfValue IsShortName) IsCommand (short_name ws) _ (short_name-gives ws)
    (λ h hs. at_end-gives IsCommand (commands.Flush h.0) h.1 hs)

insert-gives : Reader IsCommand insert_words
insert-gives ws =
    after (OfValue IsShortName) IsCommand (short_name ws) _ (short_name-gives ws)
    (λ d ds. at_end-gives IsCommand (commands.Insert d.0) d.1 ds)

pull-gives : Reader IsCommand pull_words
pull-gives ws =
    after (OfValue IsShortName) IsCommand (short_name ws) _ (short_name-gives ws)
    (λ d ds. at_end-gives IsCommand (commands.Pull d.0) d.1 ds)

nop-gives : Reader IsCommand nop_words
nop-gives ws =
    after (OfValue IsProviderName) IsCommand (long_name ws) _ (long_name-gives ws) (λ p ps.
    after (OfValue IsWord64) IsCommand (any_number p.1) _ (any_number-gives p.1) (λ offset os.
    after (OfValue IsWord64) IsCommand (any_number offset.1) _ (any_number-gives offset.1) (λ size ss.
    after (OfValue IsWord64) IsCommand (any_number size.1) _ (any_number-gives size.1) (λ fail fs.
    at_end-gives IsCommand (commands.Nop p.0 offset.0 size.0 fail.0) fail.1 (ps, os, ss, fs)))))

concat-gives : Reader IsCommand concat_words
concat-gives ws =
    after (OfValue IsShortName) IsCommand (short_name ws) _ (short_name-gives ws) (λ name ns.
    after (OfValue AreComponents) IsCommand (long_names name.1) _ (long_names-gives name.1) (λ ps cs.
    at_end-gives IsCommand (commands.Concat name.0 ps.0) ps.1 (ns, cs)))

stripe-gives : Reader IsCommand stripe_words
stripe-gives ws =
    after (OfValue IsShortName) IsCommand (short_name ws) _ (short_name-gives ws) (λ name ns.
    after (OfValue IsStripe) IsCommand (stripe_size name.1) _ (stripe_size-gives name.1) (λ stripe ss.
    after (OfValue AreComponents) IsCommand (long_names stripe.1) _ (long_names-gives stripe.1) (λ ps cs.
    at_end-gives IsCommand (commands.Stripe name.0 stripe.0 ps.0) ps.1 (ns, ss, cs))))

append-gives : Reader IsCommand append_words
append-gives ws =
    after (OfValue IsShortName) IsCommand (short_name ws) _ (short_name-gives ws) (λ name ns.
    after (OfValue IsProviderName) IsCommand (long_name name.1) _ (long_name-gives name.1) (λ p ps.
    at_end-gives IsCommand (commands.Append name.0 p.0) p.1 (ns, ps)))

destroy-gives : Reader IsCommand destroy_words
destroy-gives ws =
    after (OfValue IsNamedClass) IsCommand (class_word ws) _ (class_word-gives ws) (λ class cs.
    after (OfValue IsProviderName) IsCommand (long_name class.1) _ (long_name-gives class.1) (λ geom gs.
    at_end-gives IsCommand (commands.Destroy class.0 geom.0) geom.1 (cs, gs)))

label-gives : Reader IsCommand label_words
label-gives ws =
    after (OfValue IsShortName) IsCommand (short_name ws) _ (short_name-gives ws) (λ h hs.
    after (OfValue IsShortName) IsCommand (short_name h.1) _ (short_name-gives h.1) (λ name ns.
    at_end-gives IsCommand (commands.Label h.0 name.0) name.1 (hs, ns)))

relabel-gives : Reader IsCommand relabel_words
relabel-gives ws =
    after (OfValue IsShortName) IsCommand (short_name ws) _ (short_name-gives ws) (λ h hs.
    after (OfValue IsShortName) IsCommand (short_name h.1) _ (short_name-gives h.1) (λ name ns.
    at_end-gives IsCommand (commands.Relabel h.0 name.0) name.1 (hs, ns)))

-- the numbers of a record
abbrev marked : {id place count : ℕ} → id < 2 ^ 32 → place < 2 ^ 16 → IsCount count → IsMark id place count
marked id_fits place_fits few =
    record { id_fits = id_fits; place_fits = place_fits; some_place = few.0; few_places = few.1 }

-- a record of a concatenation, behind the handle
mark_concat-gives : (h : List ℕ) → IsShortName h → Reader IsCommand (mark_concat_words h)
mark_concat-gives h hs ws =
    after (OfValue IsShortName) IsCommand (short_name ws) _ (short_name-gives ws) (λ name ns.
    after (OfValue (λ n. n < 2 ^ 32)) IsCommand (record_id name.1) _ (record_id-gives name.1) (λ id is.
    after (OfValue (λ n. n < 2 ^ 16)) IsCommand (record_place id.1) _ (record_place-gives id.1) (λ place ps.
    after (OfValue IsCount) IsCommand (record_count place.1) _ (record_count-gives place.1) (λ count cs.
    at_end-gives IsCommand (commands.MarkConcat h name.0 id.0 place.0 count.0) count.1 (hs, ns, marked is ps cs)))))

-- a record of stripes, behind the handle
mark_stripe-gives : (h : List ℕ) → IsShortName h → Reader IsCommand (mark_stripe_words h)
mark_stripe-gives h hs ws =
    after (OfValue IsShortName) IsCommand (short_name ws) _ (short_name-gives ws) (λ name ns.
    after (OfValue (λ n. n < 2 ^ 32)) IsCommand (record_id name.1) _ (record_id-gives name.1) (λ id is.
    after (OfValue (λ n. n < 2 ^ 16)) IsCommand (record_place id.1) _ (record_place-gives id.1) (λ place ps.
    after (OfValue IsCount) IsCommand (record_count place.1) _ (record_count-gives place.1) (λ count cs.
    after (OfValue IsStripe) IsCommand (stripe_size count.1) _ (stripe_size-gives count.1) (λ stripe ss.
    at_end-gives IsCommand (commands.MarkStripe h name.0 id.0 place.0 count.0 stripe.0) stripe.1 (
      hs,
      ns,
      marked is ps cs,
      ss,
    ))))))

mark-gives : Reader IsCommand mark_words
mark-gives ws =
    after (OfValue IsShortName) IsCommand (short_name ws) _ (short_name-gives ws) (λ h hs.
    by_word-gives IsCommand ((codes "concat", mark_concat_words h.0) ∷ (codes "stripe", mark_stripe_words h.0)
    ∷ []) (mark_concat-gives h.0 hs, (mark_stripe-gives h.0 hs, tt)) h.1)

sync-gives : Reader IsCommand (at_end commands.Sync)
sync-gives ws = at_end-gives IsCommand commands.Sync ws tt

settle-gives : Reader IsCommand (at_end commands.Settle)
settle-gives ws = at_end-gives IsCommand commands.Settle ws tt

mesh-gives : Reader IsCommand (at_end commands.Mesh)
mesh-gives ws = at_end-gives IsCommand commands.Mesh ws tt

-- the commands on disks, geoms and records, and of the listing
geom-rows : EachRow (Reader IsCommand) geom_commands
geom-rows = (
  insert-gives,
  (
    pull-gives,
    (
      nop-gives,
      (
        concat-gives,
        (
          stripe-gives,
          (append-gives, (destroy-gives, (label-gives, (relabel-gives, (mark-gives, (mesh-gives, tt)))))),
        ),
      ),
    ),
  ),
)

-- all commands of the table
command-rows : EachRow (Reader IsCommand) command_table
command-rows = (
  open-gives,
  (
    close-gives,
    (read-gives, (write-gives, (delete-gives, (flush-gives, (sync-gives, (settle-gives, geom-rows)))))),
  ),
)

-- a command that is read has its form
pub commands-give : Reader IsCommand (by_word command_table)
commands-give = by_word-gives IsCommand command_table command-rows

-- Header lines

-- the word `later` has no rule to keep
later-gives : (ws : Words) → Gives (λ x. Unit {0}) (later_word ws)
later-gives ws = into (later_word ws)
  where
    into : (r : Result (Bool × Words) Cause) → Gives (λ x. Unit {0}) r
    into (Ok x) = tt
    into (Err cause) = tt

-- a disk in memory has its form
pub ram-gives : Reader IsDiskDecl ram_words
ram-gives ws =
    after (OfValue IsShortName) IsDiskDecl (short_name ws) _ (short_name-gives ws) (λ name ns.
    after (OfValue IsSectorSize) IsDiskDecl (sector_size name.1) _ (sector_size-gives name.1) (λ sector ss.
    after (OfValue (IsSectorCount sector.0)) IsDiskDecl (sector_count sector.0 sector.1) _
    (sector_count-gives sector.0 sector.1) (λ sectors cs.
    after (λ x. Unit {0}) IsDiskDecl (later_word sectors.1) _ (later-gives sectors.1) (λ later ls.
    at_end-gives IsDiskDecl (record {
      kind = disk_kinds.Ram;
      name = name.0;
      sector = sector.0;
      sectors = sectors.0;
      later = later.0;
    }) later.1
    (record { name = ns; sector = ss; sectors = cs })))))

-- a disk of the shelf has its form
pub disk-gives : Reader IsDiskDecl disk_words
disk-gives ws =
    after (OfValue IsShortName) IsDiskDecl (short_name ws) _ (short_name-gives ws) (λ name ns.
    after (OfValue IsSectorSize) IsDiskDecl (sector_size name.1) _ (sector_size-gives name.1) (λ sector ss.
    after (λ x. Unit {0}) IsDiskDecl (later_word sector.1) _ (later-gives sector.1) (λ later ls.
    at_end-gives IsDiskDecl (record {
      kind = disk_kinds.Shelf;
      name = name.0;
      sector = sector.0;
      sectors = 0;
      later = later.0;
    }) later.1
    (record { name = ns; sector = ss; sectors = refl }))))

-- an actor's name is short
pub actor-gives : Reader IsShortName actor_words
actor-gives ws =
    after (OfValue IsShortName) IsShortName (short_name ws) _ (short_name-gives ws)
    (λ name ns. at_end-gives IsShortName name.0 name.1 ns)
