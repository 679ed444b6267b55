-- Parts of the tables of words.
use Rattle.std.specs.Prelude.{List, [], ◌∷◌, ℕ, Result, codes}
use Rattle.geo_model.specs.declared.command.Cause.{Cause}
use Rattle.geo_model.specs.declared.command.Command.{Command}
use Rattle.geo_model.specs.declared.command.Command.TheVariants as commands
use Rattle.geo_model.specs.Script.{Words, insert_words, pull_words, nop_words, concat_words, stripe_words, append_words, destroy_words, label_words, relabel_words, mark_words, at_end}

-- the commands that destroy a geom and write records, and that of the listing: the last five of the table
abbrev pub record_commands : List (List ℕ × (Words → Result Command Cause))
record_commands =
    (codes "destroy", destroy_words) ∷ (codes "label", label_words) ∷ (codes "relabel", relabel_words)
    ∷ (codes "mark", mark_words) ∷ (codes "mesh", at_end commands.Mesh) ∷ []

-- the commands on disks, geoms and records, and that of the listing: the last eleven of the table
abbrev pub geom_commands : List (List ℕ × (Words → Result Command Cause))
geom_commands =
    (codes "insert", insert_words) ∷ (codes "pull", pull_words) ∷ (codes "nop", nop_words)
    ∷ (codes "concat", concat_words) ∷ (codes "stripe", stripe_words) ∷ (codes "append", append_words)
    ∷ record_commands
