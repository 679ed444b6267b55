-- A plan written as a script: by the grammar, and not by the readers of its words.
use Rattle.std.specs.Prelude.{ℕ, ◌+◌, ◌-◌, Bool, true, false, List, [], ◌∷◌, ◌++◌, length, map, flat_map, replicate, codes, decimal}
use Rattle.std.specs.List.{join_with_byte}
use Rattle.geo_base.specs.Runs.{run_text, runs_of}
use Rattle.geo_base.specs.declared.request.Counts.{Counts}
use Rattle.geo_base.specs.declared.kind.Kind.{Kind}
use Rattle.geo_base.specs.declared.kind.Kind.TheVariants as kinds
use Rattle.geo_model.specs.declared.command.Command.{Command}
use Rattle.geo_model.specs.declared.command.Command.TheVariants as commands
use Rattle.geo_model.specs.declared.command.DiskDecl.{DiskDecl}
use Rattle.geo_model.specs.declared.command.DiskKind.{DiskKind}
use Rattle.geo_model.specs.declared.command.DiskKind.TheVariants as disk_kinds
use Rattle.geo_model.specs.declared.command.LineCommand.{LineCommand}
use Rattle.geo_model.specs.Generator.{entry_at, line}
use Rattle.geo_model.specs.Report.{counts_text}
use Rattle.geo_model.specs.World.{Plan}

-- words with exactly one space between each two
abbrev pub spaced : List (List ℕ) → List ℕ
spaced words = join_with_byte 32 words

-- Header lines

-- the last word of a disk that doesn't stand at the opening
abbrev pub later_in_words : Bool → List (List ℕ)
later_in_words true = codes "later" ∷ []
later_in_words false = []

-- `ram NAME SECTORSIZE SECTORS [later]`, and `disk NAME SECTORSIZE [later]`
abbrev pub disk_in_words : DiskKind → DiskDecl → List (List ℕ)
disk_in_words disk_kinds.Ram d =
    codes "ram" ∷ d.name ∷ decimal d.sector ∷ decimal d.sectors ∷ later_in_words d.later
disk_in_words disk_kinds.Shelf d = codes "disk" ∷ d.name ∷ decimal d.sector ∷ later_in_words d.later

abbrev pub disk_line : DiskDecl → List ℕ
disk_line d = spaced (disk_in_words d.kind d)

-- `actor NAME`
abbrev pub actor_in_words : List ℕ → List ℕ
actor_in_words name = spaced (codes "actor" ∷ name ∷ [])

-- Commands

-- `open H PROV rNwNeN`
abbrev pub open_in_words : List ℕ → List ℕ → Counts → List (List ℕ)
open_in_words h prov grant = codes "open" ∷ h ∷ prov ∷ counts_text grant ∷ []

-- `close H`
abbrev pub close_in_words : List ℕ → List (List ℕ)
close_in_words h = codes "close" ∷ h ∷ []

-- `read H OFF LEN`
abbrev pub read_in_words : List ℕ → ℕ → ℕ → List (List ℕ)
read_in_words h off len = codes "read" ∷ h ∷ decimal off ∷ decimal len ∷ []

-- `write H OFF RUNS`: each run is a word
abbrev pub write_in_words : List ℕ → ℕ → List ℕ → List (List ℕ)
write_in_words h off bytes = codes "write" ∷ h ∷ decimal off ∷ map run_text (runs_of bytes)

-- `delete H OFF LEN`
abbrev pub delete_in_words : List ℕ → ℕ → ℕ → List (List ℕ)
delete_in_words h off len = codes "delete" ∷ h ∷ decimal off ∷ decimal len ∷ []

-- `flush H`
abbrev pub flush_in_words : List ℕ → List (List ℕ)
flush_in_words h = codes "flush" ∷ h ∷ []

-- `insert DISK`
abbrev pub insert_in_words : List ℕ → List (List ℕ)
insert_in_words disk = codes "insert" ∷ disk ∷ []

-- `pull DISK`
abbrev pub pull_in_words : List ℕ → List (List ℕ)
pull_in_words disk = codes "pull" ∷ disk ∷ []

-- `nop PROV OFF SIZE FAIL`
abbrev pub nop_in_words : List ℕ → ℕ → ℕ → ℕ → List (List ℕ)
nop_in_words prov off size fail = codes "nop" ∷ prov ∷ decimal off ∷ decimal size ∷ decimal fail ∷ []

-- `concat NAME PROV ..`
abbrev pub concat_in_words : List ℕ → List (List ℕ) → List (List ℕ)
concat_in_words name provs = codes "concat" ∷ name ∷ provs

-- `stripe NAME S PROV ..`
abbrev pub stripe_in_words : List ℕ → ℕ → List (List ℕ) → List (List ℕ)
stripe_in_words name stripe provs = codes "stripe" ∷ name ∷ decimal stripe ∷ provs

-- `append NAME PROV`
abbrev pub append_in_words : List ℕ → List ℕ → List (List ℕ)
append_in_words name prov = codes "append" ∷ name ∷ prov ∷ []

-- a class that a command can name; the other classes have no such word
abbrev pub class_text : Kind → List ℕ
class_text kinds.Mbr = codes "mbr"
class_text kinds.Ebr = codes "ebr"
class_text kinds.Label = codes "label"
class_text kinds.Concat = codes "concat"
class_text kinds.Stripe = codes "stripe"
class_text kinds.Nop = codes "nop"
class_text _ = []

-- `destroy CLASS GEOM`
abbrev pub destroy_in_words : Kind → List ℕ → List (List ℕ)
destroy_in_words class geom = codes "destroy" ∷ class_text class ∷ geom ∷ []

-- `label H NAME`
abbrev pub label_in_words : List ℕ → List ℕ → List (List ℕ)
label_in_words h name = codes "label" ∷ h ∷ name ∷ []

-- `relabel H NAME`
abbrev pub relabel_in_words : List ℕ → List ℕ → List (List ℕ)
relabel_in_words h name = codes "relabel" ∷ h ∷ name ∷ []

-- `mark H concat NAME ID PLACE COUNT`
abbrev pub mark_concat_in_words : List ℕ → List ℕ → ℕ → ℕ → ℕ → List (List ℕ)
mark_concat_in_words h name id place count =
    codes "mark" ∷ h ∷ codes "concat" ∷ name ∷ decimal id ∷ decimal place ∷ decimal count ∷ []

-- `mark H stripe NAME ID PLACE COUNT S`
abbrev pub mark_stripe_in_words : List ℕ → List ℕ → ℕ → ℕ → ℕ → ℕ → List (List ℕ)
mark_stripe_in_words h name id place count stripe =
    codes "mark" ∷ h ∷ codes "stripe" ∷ name ∷ decimal id ∷ decimal place ∷ decimal count ∷ decimal stripe ∷ []

abbrev pub command_in_words : Command → List (List ℕ)
command_in_words (commands.Open h prov grant) = open_in_words h prov grant
command_in_words (commands.Close h) = close_in_words h
command_in_words (commands.Read h off len) = read_in_words h off len
command_in_words (commands.Write h off bytes) = write_in_words h off bytes
command_in_words (commands.Delete h off len) = delete_in_words h off len
command_in_words (commands.Flush h) = flush_in_words h
command_in_words commands.Sync = codes "sync" ∷ []
command_in_words commands.Settle = codes "settle" ∷ []
command_in_words (commands.Insert disk) = insert_in_words disk
command_in_words (commands.Pull disk) = pull_in_words disk
command_in_words (commands.Nop prov off size fail) = nop_in_words prov off size fail
command_in_words (commands.Concat name provs) = concat_in_words name provs
command_in_words (commands.Stripe name stripe provs) = stripe_in_words name stripe provs
command_in_words (commands.Append name prov) = append_in_words name prov
command_in_words (commands.Destroy class geom) = destroy_in_words class geom
command_in_words (commands.Label h name) = label_in_words h name
command_in_words (commands.Relabel h name) = relabel_in_words h name
command_in_words (commands.MarkConcat h name id place count) = mark_concat_in_words h name id place count
command_in_words (commands.MarkStripe h name id place count stripe) =
    mark_stripe_in_words h name id place count stripe
command_in_words commands.Mesh = codes "mesh" ∷ []

-- the name of its actor, and the command
abbrev pub command_line : List (List ℕ) → LineCommand → List ℕ
command_line actors c = spaced (entry_at actors c.actor ∷ command_in_words c.command)

-- Texts

-- the lines of commands from a line number on, each on its own line, with empty lines before it
abbrev pub command_lines : List (List ℕ) → ℕ → List LineCommand → List (List ℕ)
command_lines actors from [] = []
command_lines actors from (c ∷ cs) =
    replicate (c.line - from) [] ++ command_line actors c ∷ command_lines actors (c.line + 1) cs

-- the lines of the header
abbrev pub header_lines : Plan → List (List ℕ)
header_lines plan = map disk_line plan.disks ++ map actor_in_words plan.actors

abbrev pub plan_lines : Plan → List (List ℕ)
plan_lines plan =
    header_lines plan
    ++ command_lines plan.actors (length plan.disks + length plan.actors + 1) plan.commands

-- a plan as a script: its disks, its actors and its commands, each line with its line feed
unfoldable pub plan_text : Plan → List ℕ
plan_text plan = flat_map line (plan_lines plan)
