-- Small plans and their texts.
use Rattle.std.specs.Prelude.{◌≡◌, ℕ, false, true, List, [], ◌∷◌, ◌++◌, codes}
use Rattle.std.specs.Fmt.{digits}
use Rattle.std.proofs.Common.{refl}
use Rattle.geo_base.specs.declared.kind.Kind.TheVariants as kinds
use Rattle.geo_model.specs.declared.command.Command.{Command}
use Rattle.geo_model.specs.declared.command.Command.TheVariants as commands
use Rattle.geo_model.specs.declared.command.DiskKind.TheVariants as disk_kinds
use Rattle.geo_model.specs.declared.command.LineCommand.{LineCommand}
use Rattle.geo_model.specs.World.{Plan}
use Rattle.geo_laws_scripts.specs.PlanTexts.{plan_text}

-- a line of a text
abbrev row : List ℕ → List ℕ
row text = text ++ 10 ∷ []

-- a command at a line
abbrev at : ℕ → ℕ → Command → LineCommand
at line actor command = record { line = line; actor = actor; command = command }

-- a plan of one disk and one actor, with these commands
abbrev small : List LineCommand → Plan
small commands = record {
  disks = record { kind = disk_kinds.Ram; name = codes "d"; sector = 512; sectors = 8; later = false } ∷ [];
  actors = codes "a" ∷ [];
  commands = commands;
}

-- its header
abbrev small_header : List ℕ
small_header = row (codes "ram d 512 8") ++ row (codes "actor a")

-- a plan without a command is its header: the disks before the actors, with `later` behind what waits
header_is : plan_text (record {
  disks = record { kind = disk_kinds.Ram; name = codes "m"; sector = 4096; sectors = 12; later = true }
      ∷ record { kind = disk_kinds.Shelf; name = codes "k"; sector = 512; sectors = 0; later = false }
      ∷ record { kind = disk_kinds.Shelf; name = codes "n"; sector = 4096; sectors = 0; later = true } ∷ [];
  actors = codes "a" ∷ codes "b" ∷ [];
  commands = [];
})
    ≡ row (codes "ram m 4096 12 later") ++ row (codes "disk k 512") ++ row (codes "disk n 4096 later")
    ++ row (codes "actor a") ++ row (codes "actor b")
unfolding plan_text digits
header_is = refl

-- empty lines stand before a command up to its line
lines_are : plan_text (small (at 5 0 commands.Mesh ∷ at 7 0 commands.Sync ∷ at 8 0 commands.Settle ∷ []))
    ≡ small_header ++ row [] ++ row [] ++ row (codes "a mesh") ++ row [] ++ row (codes "a sync")
    ++ row (codes "a settle")
unfolding plan_text digits
lines_are = refl

-- requests: the offset stands before the length
requests_are : plan_text (small
    (at 3 0 (commands.Open (codes "h") (codes "d/x") (record { r = 1; w = 2; e = 0 }))
    ∷ at 4 0 (commands.Read (codes "h") 512 1024)
    ∷ at 5 0 (commands.Write (codes "h") 0 (171 ∷ 171 ∷ 0 ∷ []))
    ∷ at 6 0 (commands.Delete (codes "h") 1536 512)
    ∷ at 7 0 (commands.Flush (codes "h"))
    ∷ at 8 0 (commands.Close (codes "h")) ∷ []))
    ≡ small_header ++ row (codes "a open h d/x r1w2e0") ++ row (codes "a read h 512 1024")
    ++ row (codes "a write h 0 ab*2 00*1") ++ row (codes "a delete h 1536 512") ++ row (codes "a flush h")
    ++ row (codes "a close h")
unfolding plan_text digits
requests_are = refl

-- geoms: the class stands before the geom
geoms_are : plan_text (small
    (at 3 0 (commands.Nop (codes "d") 512 1024 3)
    ∷ at 4 0 (commands.Concat (codes "c") (codes "d" ∷ codes "e" ∷ []))
    ∷ at 5 0 (commands.Stripe (codes "s") 4096 (codes "d" ∷ codes "e" ∷ []))
    ∷ at 6 0 (commands.Append (codes "c") (codes "d.nop"))
    ∷ at 7 0 (commands.Destroy kinds.Stripe (codes "s"))
    ∷ at 8 0 (commands.Insert (codes "d")) ∷ at 9 0 (commands.Pull (codes "d")) ∷ []))
    ≡ small_header ++ row (codes "a nop d 512 1024 3") ++ row (codes "a concat c d e")
    ++ row (codes "a stripe s 4096 d e") ++ row (codes "a append c d.nop") ++ row (codes "a destroy stripe s")
    ++ row (codes "a insert d") ++ row (codes "a pull d")
unfolding plan_text digits
geoms_are = refl

-- records: the id, the place, the count and the size of a stripe, in this order
records_are : plan_text (small
    (at 3 0 (commands.Label (codes "h") (codes "x"))
    ∷ at 4 0 (commands.Relabel (codes "h") (codes "y"))
    ∷ at 5 0 (commands.MarkConcat (codes "h") (codes "c") 7 1 2)
    ∷ at 6 0 (commands.MarkStripe (codes "h") (codes "s") 8 0 3 4096) ∷ []))
    ≡ small_header ++ row (codes "a label h x") ++ row (codes "a relabel h y") ++ row (codes "a mark h concat c 7 1 2")
    ++ row (codes "a mark h stripe s 8 0 3 4096")
unfolding plan_text digits
records_are = refl
