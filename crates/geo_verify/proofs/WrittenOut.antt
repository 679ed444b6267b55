-- What is written as a trace is one.
use Rattle.std.specs.Prelude.{◌≡◌, ℕ, ◌-◌, ◌<◌, ◌≤◌, ◌==◌, ◌^◌, true, false, List, [], ◌∷◌, ◌++◌, length, take, flat_map, zip, All, Option, slice_get, suc}
use Rattle.std.specs.List.{AllByRecursion}
use Rattle.std.specs.Option.{option_map_or}
use Rattle.std.proofs.Common.{refl, sym, ◌∙◌, ap, arith, subst}
use Rattle.std.proofs.lemmas.List.{take_all}
use Rattle.std.proofs.lemmas.List.Elements.{All-from_recursion, recursion_from_All}
use Rattle.std.proofs.lemmas.List.Folds.{flat_map-map}
use Rattle.geo_model.specs.declared.step.Entry.{Entry}
use Rattle.geo_model.specs.declared.step.Step.{Step}
use Rattle.geo_model.specs.World.{Plan}
use Rattle.geo_headline.specs.Traces.{ended_script, size_line, step_line, report_mark, steps_of, trace_text}
use Rattle.geo_model.specs.Report.{end_line}
use Rattle.geo_laws_traces.specs.TraceLaws.{AreWritable, FewBytes, IsWritable}
use Rattle.geo_verify.specs.Written.{is_last_line_ended, trace_of, written_of}

-- The script

-- the last byte tells whether the last line is ended
pub last_is : (text : List ℕ) (o : Option ℕ) → o ≡ slice_get text (length text - 1)
    → option_map_or (λ b. b == 10) o true ≡ is_last_line_ended text
last_is [] o is = ap (λ (x : Option ℕ). option_map_or (λ b. b == 10) x true) is
last_is (b ∷ []) o is = ap (λ (x : Option ℕ). option_map_or (λ b. b == 10) x true) is
last_is (b ∷ c ∷ cs) o is =
    last_is (c ∷ cs) o (is ∙ ap (λ (n : ℕ). slice_get (b ∷ c ∷ cs) n) shorter)
  where
    shorter : length (b ∷ c ∷ cs) - 1 ≡ suc (length (c ∷ cs) - 1)
    shorter = omega arith

pub ended_then : (text : List ℕ) → is_last_line_ended text ≡ true → ended_script text ≡ text
ended_then [] is = refl
ended_then (b ∷ []) is = rw is refl
ended_then (b ∷ c ∷ cs) is = ap (λ xs. b ∷ xs) (ended_then (c ∷ cs) is)

pub ended_else : (text : List ℕ) → is_last_line_ended text ≡ false → ended_script text ≡ text ++ 10 ∷ []
ended_else [] is = absurd (let bad : ⊥ = cc in bad)
ended_else (b ∷ []) is = rw is refl
ended_else (b ∷ c ∷ cs) is = ap (λ xs. b ∷ xs) (ended_else (c ∷ cs) is)

-- The steps

-- the lines of entries are those of their steps
pub is_trace_text : (script : List ℕ) (plan : Plan) (facts : List (ℕ × ℕ)) (log : List Entry) (report : List ℕ)
    → written_of script plan facts log report ≡ trace_text script (trace_of plan facts log report)
unfolding trace_text
is_trace_text script plan facts log report =
    ap (λ (lines : List ℕ).
    ended_script script ++ flat_map size_line (zip plan.disks facts) ++ lines ++ report_mark ++ end_line ++ report)
    (sym (flat_map-map step_line (λ (e : Entry). (e.seat, e.step)) log))

-- an entry within its ranges, if it delivers few bytes
abbrev pub FitsLine : Entry → Type 0
FitsLine e = (e.seat < 2 ^ 32) × (FewBytes e.step → IsWritable e.step)

items_fit : (log : List Entry) → AllByRecursion (λ (e : Entry). FewBytes e.step) log → AllByRecursion FitsLine log
    → AllByRecursion (λ (item : ℕ × Step). (item.0 < 2 ^ 32) × IsWritable item.1) (steps_of log)
items_fit [] few fits = tt
items_fit (e ∷ log) few fits = ((fits.0.0, fits.0.1 few.0), items_fit log few.1 fits.1)

pub all_fit : (log : List Entry) (i : ℕ) → length log ≤ i → AllByRecursion FitsLine (take i log)
    → All (λ (e : Entry). FewBytes e.step) log → AreWritable (steps_of log)
all_fit log i end fits few =
    All-from_recursion (λ (item : ℕ × Step). (item.0 < 2 ^ 32) × IsWritable item.1) (steps_of log)
    (items_fit log (recursion_from_All (λ (e : Entry). FewBytes e.step) log few)
    (subst (AllByRecursion FitsLine) (take_all i log end) fits))
