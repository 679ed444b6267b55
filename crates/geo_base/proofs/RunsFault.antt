-- Where a text isn't one of runs.
use Rattle.std.proofs.Common.{◌≡◌, ℕ, ◌+◌, ◌<◌, ◌≤◌, List, [], ◌∷◌, ◌++◌, length, replicate, take, drop, refl, sym, ◌∙◌, ap, arith, add-one, get_or, append_assoc, Option, Some, None, subst}
use Rattle.std.proofs.lemmas.List.{take-append-drop, take-take, take_all, length-take-le, get_or-take, drop_more}
use Rattle.std.proofs.Math.Seq.{take-length, take-suc}
use Rattle.std.proofs.lemmas.Grind.{get_or_default_zero}
use Rattle.geo_base.specs.Runs.{IsRuns, BeginsRuns, IsRunsFault, runs_text}
use Rattle.geo_base.specs.RunsReader.{Reading, read_one_more}
use Rattle.geo_base.specs.declared.runs.Place.{Place}
use Rattle.geo_base.specs.declared.runs.Place.TheVariants.{Start, High, Byte, Times}
use Rattle.geo_base.proofs.RunsReach.{Reached, reached-begins, reached-next}
use Rattle.geo_base.proofs.RunsEnds.{at_place, read_more, read_more-append, read_more-none, runs-end}
use Rattle.geo_base.specs.declared.limits.TheConstants.{MAX_RUNS_BYTES}

abbrev pub from_start : List ℕ → Option Reading
from_start text = read_more (Some (at_place Start [])) text

-- one byte more
pub from_start-next : (text : List ℕ) (place next : Place) (bytes more : List ℕ) (b : ℕ)
    → from_start text ≡ Some (at_place place bytes) → read_one_more place bytes b ≡ Some (at_place next more)
    → from_start (text ++ b ∷ []) ≡ Some (at_place next more)
from_start-next text place next bytes more b e f = read_more-append (Some (at_place Start [])) text (b ∷ [])
    ∙ ap (λ o. read_more o (b ∷ [])) e ∙ f

-- no text of runs goes on with a byte that isn't taken
stuck : (text : List ℕ) (place : Place) (bytes : List ℕ) (b : ℕ) (rest all runs : List ℕ)
    → from_start text ≡ Some (at_place place bytes) → read_one_more place bytes b ≡ None → all ≡ text ++ (b ∷ rest)
    → IsRuns all runs → ⊥
stuck text place bytes b rest all runs e f g r =
    let ends = runs-end all runs r in
    let none : from_start all ≡ None =
    ap from_start g ∙ read_more-append (Some (at_place Start [])) text (b ∷ rest)
    ∙ ap (λ o. read_more o (b ∷ rest)) e ∙ ap (λ o. read_more o rest) f ∙ read_more-none rest in
    let both : None ≡ Some (at_place (Times ends.byte ends.times) ends.done) = sym none ∙ ends.stands in
    cc

-- the bytes that a reading ends with
abbrev bytes_of : Option Reading → List ℕ
bytes_of None = []
bytes_of (Some r) = elim r.place [ Start ↦ [] | High h ↦ [] | Byte v ↦ [] | Times v n ↦ r.bytes ++ replicate n v ]

-- one text has one list of bytes
pub runs-one : (text a b : List ℕ) → IsRuns text a → IsRuns text b → a ≡ b
runs-one text a b r s =
    let x = runs-end text a r in
    let y = runs-end text b s in
    sym x.whole ∙ ap bytes_of (sym x.stands ∙ y.stands) ∙ y.whole

split_at : (n i : ℕ) (text : List ℕ) → i < n → n ≤ length text
    → (rest : List ℕ) × (take n text ≡ take i text ++ (get_or text i 0 ∷ rest))
split_at n i text lt le =
    let shorter : take i (take n text) ≡ take i text = take-take i n text (omega arith) in
    let long : length (take n text) ≡ n = length-take-le n text le in
    let inside : i < length (take n text) = omega arith in
    let here : get_or (take n text) i 0 ≡ get_or text i 0 = get_or-take n text i 0 lt in (
      drop (i + 1) (take n text),
      sym (take-append-drop i (take n text))
          ∙ ap (λ l. take i (take n text) ++ l) (drop_more (take n text) i 0 inside) ∙ rw (shorter, here) refl,
    )

-- a byte that isn't taken is a fault
pub fault-at : (text bytes : List ℕ) (place : Place) (i : ℕ) → i < length text → Reached place bytes (take i text)
    → from_start (take i text) ≡ Some (at_place place bytes) → read_one_more place bytes (get_or text i 0) ≡ None
    → IsRunsFault text i
fault-at text bytes place i lt r e f = record {
  not_runs = λ runs is.
      let cut = split_at (length text) i text lt (omega arith) in
      stuck (take i text) place bytes (get_or text i 0) cut.0 text runs e f (sym (take-length text) ∙ cut.1) is;
  inside = omega arith;
  begins = reached-begins place bytes (take i text) r;
  longest = λ n more le begins.
      let cut = split_at n i text more le in
      stuck (take i text) place bytes (get_or text i 0) (cut.0 ++ begins.0) (take n text ++ begins.0) begins.1 e f
      (ap (λ l. l ++ begins.0) cut.1 ∙ append_assoc (take i text) (get_or text i 0 ∷ cut.0) begins.0) begins.2;
}

-- a reader that stands before the end of a number
abbrev pub IsOpen : Place → Type 0
IsOpen place = (v n : ℕ) → 1 ≤ n → place ≡ Times v n → ⊥

-- a text that ends inside a run is a fault
pub fault-end : (text bytes : List ℕ) (place : Place) → Reached place bytes text
    → from_start text ≡ Some (at_place place bytes) → IsOpen place → IsRunsFault text (length text)
fault-end text bytes place r e open_ = record {
  not_runs = λ runs is.
      let ends = runs-end text runs is in
      open_ ends.byte ends.times ends.some
      (same_place (at_place place bytes) (at_place (Times ends.byte ends.times) ends.done) (sym e ∙ ends.stands));
  inside = omega arith;
  begins = subst BeginsRuns (sym (take-length text)) (reached-begins place bytes text r);
  longest = λ n more le _. absurd (omega arith);
}
  where
    same_place : (a b : Reading) → Some a ≡ Some b → a.place ≡ b.place
    same_place a b g = let h : a ≡ b = cc in ap (λ x. x.place) h

-- one byte more is read
pub next-reached : (text bytes more : List ℕ) (place next : Place) (i : ℕ) → i < length text
    → Reached place bytes (take i text) → read_one_more place bytes (get_or text i 0) ≡ Some (at_place next more)
    → Reached next more (take (i + 1) text)
next-reached text bytes more place next i lt r e =
    subst (Reached next more) (sym (rw add-one (take-suc text i 0 lt)))
    (reached-next place next bytes more (take i text) (get_or text i 0) r e)

pub next-ran : (text bytes more : List ℕ) (place next : Place) (i : ℕ) → i < length text
    → from_start (take i text) ≡ Some (at_place place bytes)
    → read_one_more place bytes (get_or text i 0) ≡ Some (at_place next more)
    → from_start (take (i + 1) text) ≡ Some (at_place next more)
next-ran text bytes more place next i lt e f =
    let longer : take (i + 1) text ≡ take i text ++ (get_or text i 0 ∷ []) = rw add-one (take-suc text i 0 lt) in
    ap from_start longer ∙ from_start-next (take i text) place next bytes more (get_or text i 0) e f

-- all is read
pub all-reached : (text bytes : List ℕ) (place : Place) (i : ℕ) → length text ≤ i
    → Reached place bytes (take i text) → Reached place bytes text
all-reached text bytes place i le r = subst (Reached place bytes) (take_all i text le) r

pub all-ran : (text bytes : List ℕ) (place : Place) (i : ℕ) → length text ≤ i
    → from_start (take i text) ≡ Some (at_place place bytes) → from_start text ≡ Some (at_place place bytes)
all-ran text bytes place i le e = sym (ap from_start (take_all i text le)) ∙ e

-- bytes that a text can stand for are those of their text
pub runs-of-text : (bytes : List ℕ) → 1 ≤ length bytes → length bytes ≤ MAX_RUNS_BYTES
    → ((k : ℕ) → get_or bytes k 0 < 256)
    → IsRuns (runs_text bytes) bytes
runs-of-text bytes some few are = record {
  spelled = refl;
  some_byte = some;
  not_long = few;
  are_bytes = λ k d lt. let h : get_or bytes k 0 < 256 = are k in rw (get_or_default_zero bytes k d lt) h;
}
