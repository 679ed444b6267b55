-- What the program is asked to do, and the words that ask for it.
use Rattle.std.specs.Prelude.{◌≡◌, ℕ, Bool, true, false, List, [], ◌∷◌, codes, decimal, ⊤, IsTrue}
use Rattle.geo_base.specs.declared.limits.TheConstants.{MAX_SCRIPT_BYTES, MAX_TRACE_BYTES}
use Rattle.geo_model.specs.Generator.{CanBeGenerated}

-- what the program is asked to do
pub data Mode : Type 0 where
  StepMode : Mode
  RunMode : Mode
  GenMode : (start count : ℕ) → Mode
  SweepMode : Mode
  WatchMode : Mode
  TraceMode : Mode
  VerifyMode : Mode

-- the words that ask for it; the numbers are decimal without a zero in front
abbrev pub words_for : Mode → List (List ℕ)
words_for StepMode = codes "step" ∷ []
words_for RunMode = codes "run" ∷ []
words_for (GenMode start count) = codes "gen" ∷ decimal start ∷ decimal count ∷ []
words_for SweepMode = codes "sweep" ∷ []
words_for WatchMode = codes "watch" ∷ []
words_for TraceMode = codes "trace" ∷ []
words_for VerifyMode = codes "verify" ∷ []

abbrev pub IsMode : Mode → Type 0
IsMode (GenMode start count) = CanBeGenerated start count
IsMode _ = ⊤

-- the words are accepted for this
pub record Accepts (words : List (List ℕ)) (mode : Mode) : Type 0 where
  pub spelled : words ≡ words_for mode
  pub in_range : IsMode mode

-- whether threads make the steps, as far as they come
abbrev pub starts_threads : Mode → Bool
starts_threads RunMode = true
starts_threads WatchMode = true
starts_threads TraceMode = true
starts_threads _ = false

abbrev pub StartsThreads : Mode → Type 0
StartsThreads mode = IsTrue (starts_threads mode)

-- the words don't ask for threads
abbrev pub IsAlone : List (List ℕ) → Type 0
IsAlone words = (mode : Mode) → StartsThreads mode → Accepts words mode → ⊥

-- a mesh is opened, and not only a trace read
abbrev pub OpensMesh : Mode → Type 0
OpensMesh VerifyMode = ⊥
OpensMesh _ = ⊤

-- no disk of the shelf is taken
abbrev pub TakesNoDisk : Mode → Type 0
TakesNoDisk (GenMode start count) = ⊤
TakesNoDisk VerifyMode = ⊤
TakesNoDisk _ = ⊥

-- how many bytes a source may give
abbrev pub source_limit : Mode → ℕ
source_limit VerifyMode = MAX_TRACE_BYTES
source_limit _ = MAX_SCRIPT_BYTES
