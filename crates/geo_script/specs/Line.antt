-- What a line is, and what it adds to a plan.
use Rattle.std.specs.Prelude.{ℕ, List, Bool, false, Result, slice_get, codes}
use Rattle.std.specs.Option.{option_map_or}
use Rattle.geo_model.specs.declared.command.Cause.{Cause}
use Rattle.geo_model.specs.Words.{same_name}
use Rattle.geo_model.specs.Script.{◌>>=◌, Words, words_of, before_commands, ram_words, disk_words, actor_words, add_disk, add_actor}
use Rattle.geo_model.specs.World.{Plan}

-- whether the second word of a line is `write`
abbrev pub is_write_line : List ℕ → Bool
is_write_line line = option_map_or (same_name (codes "write")) (slice_get (words_of line) 1) false

-- the plan with the disk in memory, the disk of the shelf or the actor of a header line
abbrev pub plan_with_ram : Plan → Words → Result Plan Cause
plan_with_ram plan words = before_commands plan (ram_words words >>= add_disk plan)

abbrev pub plan_with_disk : Plan → Words → Result Plan Cause
plan_with_disk plan words = before_commands plan (disk_words words >>= add_disk plan)

abbrev pub plan_with_actor : Plan → Words → Result Plan Cause
plan_with_actor plan words = before_commands plan (actor_words words >>= add_actor plan)
