-- A taste under way, and what the model sees in it.
use Rattle.std.specs.Prelude.{ℕ, List, [], ◌∷◌, Option, Some, None}
use Rattle.std.specs.Option.{option_map, option_map_or}
use Rattle.geo_model.specs.Kind.{Kind}
use Rattle.geo_model.specs.Counts.{Counts}
use Rattle.geo_model.specs.Kind.TheVariants as kinds
use Rattle.geo_model.specs.Acceptance.{judge}
use Rattle.geo_model.specs.Chain.{Chain, no_links, with_link, feed}
use Rattle.geo_model.specs.declared.class.Facts.{Facts}
use Rattle.geo_model.specs.declared.class.Shape.{Shape}
use Rattle.geo_model.specs.declared.class.Verdict.{Verdict}
use Rattle.geo_model.specs.declared.class.Verdict.TheVariants.{Decline, More, Accept}
use Rattle.geo_model.specs.declared.step.BioResult.TheVariants.{Bytes}
use Rattle.geo_model.specs.World.{Asked, NoClass, NextSector, ReadOut, ReadBack, Taste}
use Rattle.geo_model.specs.Tasting.{with_read, verdict_on}
use Rattle.geo_class.specs.declared.taste.Asked.{Asked as AskedKept}
use Rattle.geo_class.specs.declared.taste.Asked.TheVariants as kept

-- how far a class has been asked
abbrev pub asked_of : AskedKept → Asked
asked_of kept.NoClass = NoClass
asked_of (kept.NextSector kind sector) = NextSector kind sector
asked_of (kept.ReadOut kind) = ReadOut kind
asked_of (kept.ReadBack kind got) = ReadBack kind got

-- the taste when it is done with a class
abbrev pub ended : Taste → Taste
ended s = record s { asked = NoClass; reads = 0; chain = no_links }

-- the taste with the next class taken off those that are left
abbrev pub with_next : Taste → List Kind → Taste
with_next s [] = s
with_next s (kind ∷ rest) = record (ended s) { classes = rest }

-- the class that is asked, with the bytes of the sector that is back
abbrev pub sector_back : Asked → Option (Kind × List ℕ)
sector_back (ReadBack kind (Bytes bytes)) = Some (kind, bytes)
sector_back _ = None

-- what a class says to the bytes of a sector, where EBR has read this chain
abbrev pub verdict_with : Chain → Kind → List ℕ → Facts → Verdict
verdict_with c kinds.Ebr bytes f = feed f.sectors c bytes
verdict_with c kind bytes f = judge kind bytes f

-- the chain after that verdict: EBR keeps the link where another one is wanted
abbrev pub chain_with : Chain → Kind → List ℕ → Facts → Verdict → Chain
chain_with c kinds.Ebr bytes f (More sector) = with_link f.sectors c bytes
chain_with c kind bytes f verdict = c

-- what was found, where a verdict accepts
abbrev pub shape_of : Option Verdict → Option Shape
shape_of (Some (Accept shape)) = Some shape
shape_of _ = None

-- the taste once a verdict on the bytes of a sector is known: a sector that is accepted is kept
abbrev pub settled : Taste → Kind → List ℕ → Verdict → Taste
settled s kind bytes (More sector) = record s { asked = NextSector kind sector }
settled s kind bytes (Decline cause) = ended s
settled s kind bytes (Accept shape) = record s { asked = ReadBack kind (Bytes bytes) }

module _ (granted : ℕ → Counts) where
  -- what the class that is asked says to the sector that is back, if one is
  abbrev pub verdict_back : Taste → Facts → Option Verdict
  verdict_back s f = option_map (λ x. verdict_on granted s x.0 x.1 f) (sector_back s.asked)

  -- the taste after a verdict of a class on these bytes
  abbrev pub after_verdict : Taste → Kind → List ℕ → Facts → Verdict → Taste
  after_verdict s kind bytes f (More sector) =
      record (with_read granted s kind bytes f) { asked = NextSector kind sector }
  after_verdict s kind bytes f (Decline cause) = ended s
  after_verdict s kind bytes f (Accept shape) = ended s

  -- the taste after the verdict on the sector that is back; where none is back the class is done with
  abbrev pub after_back : Taste → Facts → Taste
  after_back s f =
      option_map_or
      (λ x. after_verdict s x.0 x.1 f (verdict_on granted s x.0 x.1 f))
      (sector_back s.asked)
      (ended s)

  -- the taste once that verdict is known, where an accepted sector is kept
  abbrev pub weighed : Taste → Facts → Option Verdict → Taste
  weighed s f (Some (Accept shape)) = s
  weighed s f verdict = after_back s f
