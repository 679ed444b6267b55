-- What the words ask for.
use Rattle.std.specs.Prelude.{◌≡◌, ℕ, List, map, Option, Some, None, string_bytes}
use Rattle.std.specs.declared.string.String.{String}
use Rattle.std.specs.declared.alloc.Global.{Global}
use Rattle.geo_base.specs.declared.limits.TheConstants.{MAX_DRAWN_LINES}
use Rattle.geo_headline.specs.Modes.{Mode, StepMode, RunMode, GenMode, SweepMode, WatchMode, TraceMode, VerifyMode, Accepts, IsAlone}
use Rattle.geo_run.specs.Numbers.{IsNumberWithin}
use Rattle.geo_run.specs.declared.words.Threaded.{Threaded}
use Rattle.geo_run.specs.declared.words.Threaded.TheVariants as threads
use Rattle.geo_run.specs.declared.words.Work.{Work}
use Rattle.geo_run.specs.declared.words.Work.TheVariants as works

-- the words as bytes
abbrev pub word_bytes : List (String Global) → List (List ℕ)
word_bytes words = map (λ word. string_bytes word) words

abbrev pub mode_threaded : Threaded → Mode
mode_threaded threads.Run = RunMode
mode_threaded threads.Watch = WatchMode
mode_threaded threads.Trace = TraceMode

-- words that start threads ask for this work; others are for one thread
abbrev pub AsksThreaded : List (List ℕ) → Option Threaded → Type 0
AsksThreaded words (Some work) = Accepts words (mode_threaded work)
AsksThreaded words None = IsAlone words

abbrev pub mode_of : Work → Mode
mode_of works.Step = StepMode
mode_of (works.Generate start count) = GenMode start count
mode_of works.Sweep = SweepMode
mode_of works.Verify = VerifyMode

-- words that start no thread ask for this work, or for none
abbrev pub AsksFor : List (List ℕ) → Option Work → Type 0
AsksFor words (Some work) = Accepts words (mode_of work)
AsksFor words None = IsAlone words → (mode : Mode) → Accepts words mode → ⊥

-- COUNT is a number, and with this START the work is to run the script of both, or it isn't one
abbrev pub AsksCount : ℕ → List ℕ → Option Work → Type 0
AsksCount start count (Some work) =
    (n : ℕ) × (work ≡ works.Generate start n) × IsNumberWithin MAX_DRAWN_LINES count (Some n)
AsksCount start count None = IsNumberWithin MAX_DRAWN_LINES count None
