-- Sizes that are read one after the other.
use Rattle.std.specs.Prelude.{◌≡◌, ℕ, ◌+◌, ◌≤◌, true, List, [], ◌∷◌, ◌++◌, length, Ok, Err}
use Rattle.std.proofs.Common.{refl, sym, ◌∙◌, ap, arith, ◌<◌, get_or, drop, rules}
use Rattle.std.proofs.lemmas.List.{append_assoc, drop_more}
use Rattle.geo_model.specs.declared.command.Cause.{Cause}
use Rattle.geo_model.specs.declared.command.DiskDecl.{DiskDecl}
use Rattle.geo_headline.specs.Outside.{is_shelf}
use Rattle.geo_headline.specs.Traces.{Reading, then_read, Sized, add_fact, read_sizes, size_of_line}
use Rattle.geo_verify.specs.declared.refusal.VerifyRefusal.{VerifyRefusal}
use Rattle.geo_verify.specs.declared.refusal.VerifyRefusal.TheVariants as refusals
use Rattle.geo_verify.specs.Forms.{IsFormFault}

-- sizes before others
abbrev pub add_facts : List (ℕ × ℕ) → Sized → Reading Sized
add_facts done s = Ok (record s { facts = done ++ s.facts })

-- none before them
pub none_before : (r : Reading Sized) → r ≡ then_read r (add_facts [])
none_before (Ok s) = refl
none_before (Err n) = refl

-- one more before them
pub one_before : (r : Reading Sized) (fact : ℕ × ℕ) (done : List (ℕ × ℕ))
    → then_read (then_read r (add_fact fact)) (add_facts done) ≡ then_read r (add_facts (done ++ fact ∷ []))
one_before (Ok s) fact done =
    ap (λ (facts : List (ℕ × ℕ)). Ok (record s { facts = facts })) (sym (append_assoc done (fact ∷ []) s.facts))
one_before (Err n) fact done = refl

-- a fault behind some sizes is a fault of all
pub fault_behind : (whole r : Reading Sized) (done : List (ℕ × ℕ)) (refusal : VerifyRefusal)
    → whole ≡ then_read r (add_facts done) → IsFormFault r refusal → IsFormFault whole refusal
fault_behind whole r done (refusals.Script line cause) is fault = fault
fault_behind whole r done (refusals.Trace line) is fault = search rules
fault_behind whole r done refusals.NoMemory is fault = tt

-- a line that isn't of its form is a fault
pub shelf_fault : (n : ℕ) (d : DiskDecl) (ds : List DiskDecl) (line : List ℕ) (parts : List (List ℕ)) (cause : Cause)
    → is_shelf d.kind ≡ true → 1 ≤ length parts → size_of_line d.sector line ≡ Err cause
    → read_sizes n (d ∷ ds) (line ∷ parts) ≡ Err n
shelf_fault n d ds line [] cause shelf some is = absurd (omega arith)
shelf_fault n d ds line (next ∷ parts) cause shelf some is = rw (shelf, is) refl

-- and so is a line that isn't ended
pub last_fault : (n : ℕ) (d : DiskDecl) (ds : List DiskDecl) (last : List ℕ) → is_shelf d.kind ≡ true
    → read_sizes n (d ∷ ds) (last ∷ []) ≡ Err n
last_fault n d ds last shelf = rw shelf refl

-- what is left of some disks from one of them on
pub from_here : (ds : List DiskDecl) (i : ℕ) (d : DiskDecl) → i < length ds → d ≡ get_or ds i d
    → d ∷ drop (i + 1) ds ≡ drop i ds
from_here ds i d within is = ap (λ x. x ∷ drop (i + 1) ds) is ∙ sym (drop_more ds i d within)
