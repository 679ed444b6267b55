-- The log of a tally, and what it answers.
use Rattle.std.specs.Prelude.{◌≡◌, ℕ, ◌+◌, ◌^◌, List, [], ◌∷◌, length, Bool, true, false, Result, Ok, Err, if◌then◌else◌, ltb, ◌&&◌}
use Rattle.geo_lock.specs.declared.tally.Added.{Added}
use Rattle.geo_lock.specs.declared.tally.TallyRefusal.{TallyRefusal}
use Rattle.geo_lock.specs.declared.tally.TallyRefusal.TheVariants.{Full, NoMemory}

-- the sum of what was added
abbrev pub total : List Added → ℕ
total [] = 0
total (x ∷ xs) = x.added + total xs

-- each entry has the sum so far, counted from n
abbrev pub IsSummedFrom : ℕ → List Added → Type 0
IsSummedFrom n [] = Unit {0}
IsSummedFrom n (x ∷ xs) = (x.sum ≡ n + x.added) × IsSummedFrom (n + x.added) xs

-- is there room for n in the sum and for an entry in the log
abbrev pub fits : List Added → ℕ → Bool
fits log n = ltb (total log + n) (2 ^ 64) && ltb (length log) (2 ^ 32)

abbrev pub tally_answer : List Added → ℕ → Result ℕ TallyRefusal
tally_answer log n = if fits log n then Ok (total log + n) else Err Full

abbrev pub wants_memory : TallyRefusal → Bool
wants_memory Full = false
wants_memory NoMemory = true

-- is a number refused, with no memory taken, since it doesn't fit
abbrev pub is_refused : List Added → ℕ → Bool
is_refused log n = if fits log n then false else true
