-- What a Take asks of a disk.
use Rattle.std.specs.Prelude.{◌≡◌, ℕ, ◌*◌, zero, suc, List, [], ◌∷◌, ◌++◌, map, zip, Option, Some, None, Ok, is_some, slice_get}
use Rattle.std.proofs.Common.{refl, sym, ◌∙◌, ap, subst}
use Rattle.geo_base.proofs.Options.{some_and_of}
use Rattle.geo_model.specs.declared.command.DiskDecl.{DiskDecl}
use Rattle.geo_model.specs.declared.step.Entry.{Entry}
use Rattle.geo_model.specs.declared.step.Found.{Found}
use Rattle.geo_model.specs.declared.step.Outcome.{Outcome}
use Rattle.geo_model.specs.declared.step.Outcome.TheVariants as outcomes
use Rattle.geo_model.specs.declared.step.Request.{Request}
use Rattle.geo_model.specs.declared.step.Step.TheVariants as steps
use Rattle.geo_model.specs.World.{World, Bio, HeaderDisk, bio_at}
use Rattle.geo_model.specs.Bios.{request_of_bio, take_bio}
use Rattle.geo_model.specs.Fitting.{Firm}
use Rattle.geo_model.specs.Log.{Legal, replay}
use Rattle.geo_model.specs.Opening.{disk_in_size}
use Rattle.geo_model.specs.Step.{step, take_found, take_of, unless_found}
use Rattle.geo_model.proofs.LogLemmas.{Legal-front}
use Rattle.geo_laws_disks.proofs.Legal.{firm_after}
use Rattle.geo_serve.specs.Drives.{DriveView}
use Rattle.geo_laws_disks.specs.DiskLaws.{AsksInside, LiesInside}
use Rattle.geo_laws_disks.specs.DriveLaws.{HasSizes, IsServable}
use Rattle.geo_laws_disks.proofs.Inside.{disks_are_asked}
use Rattle.geo_laws_disks.proofs.Drives.{opening_disks}
use Rattle.geo_laws_disks.proofs.Takes.{takes_are_servable}
use Rattle.geo_lock.specs.Yard.{IsPassOf, YardView}
use Rattle.geo_core.specs.declared.logged.MeshStart.{MeshStart}
use Rattle.geo_core.specs.Mesh.{IsHistory, entry_of}
use Rattle.geo_core.specs.Logged.{mesh_of}
use Rattle.geo_jobs.specs.Passes.{IsGoodPass, MeshPass, opened_by}
use Rattle.geo_jobs.specs.Taking.{HasSizesOf, IsAskedOf}
use Rattle.geo_jobs.specs.Making.{MakesStep}
use Rattle.geo_jobs.proofs.Joins.{history_of, still_of}

-- The outcome

take_found_asks : (w : World) (seat disk : ℕ) (x : Bio) (found : Option Found) (after : World) (o : Outcome)
    → unless_found found (take_bio w seat disk x) ≡ Ok (after, o) → (q : Request) × (o ≡ outcomes.Asked q)
unfolding take_bio
take_found_asks w seat disk x None after o is =
    let same : take_bio w seat disk x ≡ (after, o) = cc in
    (request_of_bio w disk x, sym (ap (λ (made : World × Outcome). made.1) same))
take_found_asks w seat disk x (Some found) after o is = absurd (let bad : ⊥ = cc in bad)

take_asks : (w : World) (seat disk : ℕ) (x : Option Bio) (after : World) (o : Outcome)
    → take_of w seat disk x ≡ Ok (after, o) → (q : Request) × (o ≡ outcomes.Asked q)
take_asks w seat disk None after o is = absurd (let bad : ⊥ = cc in bad)
take_asks w seat disk (Some x) after o is = take_found_asks w seat disk x (take_found w disk x) after o is

-- a Take that is made asks
pub takes_ask : (s : MeshStart) (p q : MeshPass) (disk bio : ℕ) (o : Outcome)
    → MakesStep s p q (steps.Take disk bio) o → (request : Request) × (o ≡ outcomes.Asked request)
unfolding step
takes_ask s p q disk bio o made =
    take_asks (replay (opened_by s) made.before) p.number disk (bio_at (replay (opened_by s) made.before) bio)
    made.after o made.does

-- The request

-- a disk of the header has the sizes of the facts
record HasFacts (facts : List (ℕ × ℕ)) (disk : ℕ) (header : HeaderDisk) : Type 0 where
  sizes : ℕ × ℕ
  at : slice_get facts disk ≡ Some sizes
  sector : header.sector ≡ sizes.0
  size : header.size ≡ sizes.0 * sizes.1

header_facts : (decls : List DiskDecl) (facts : List (ℕ × ℕ)) (disk : ℕ) (header : HeaderDisk)
    → slice_get (map disk_in_size (zip decls facts)) disk ≡ Some header → HasFacts facts disk header
header_facts [] facts disk header at = absurd (let bad : ⊥ = cc in bad)
header_facts (decl ∷ decls) [] disk header at = absurd (let bad : ⊥ = cc in bad)
header_facts (decl ∷ decls) (fact ∷ facts) zero header at =
    let made : Some (disk_in_size (decl, fact)) ≡ Some header = at in
    let same : disk_in_size (decl, fact) ≡ header = cc in
    record {
      sizes = fact;
      at = refl;
      sector = sym (ap (λ (h : HeaderDisk). h.sector) same);
      size = sym (ap (λ (h : HeaderDisk). h.size) same);
    }
header_facts (decl ∷ decls) (fact ∷ facts) (suc disk) header at =
    let rest : HasFacts facts disk header = header_facts decls facts disk header at in
    record { sizes = rest.sizes; at = rest.at; sector = rest.sector; size = rest.size }

-- a request that was asked of a disk: the disk is one of the header, and has sizes among the facts, and what is asked
-- lies inside it
pub record IsAskedAt (s : MeshStart) (disk : ℕ) (q : Request) : Type 0 where
  pub header : HeaderDisk
  pub at : slice_get (opened_by s).disks disk ≡ Some header
  pub lies : LiesInside q header
  pub disk_is : q.disk ≡ disk
  pub sizes : ℕ × ℕ
  pub sizes_are : slice_get s.facts disk ≡ Some sizes
  pub sector_is : header.sector ≡ sizes.0
  pub size_is : header.size ≡ sizes.0 * sizes.1

-- so it is with each Take of a history
pub asked_at : (s : MeshStart) (log earlier later : List Entry) (e : Entry) (disk bio : ℕ) (q : Request)
    → IsHistory (mesh_of s log) → log ≡ earlier ++ e ∷ later → e.step ≡ steps.Take disk bio
    → e.outcome ≡ outcomes.Asked q → IsAskedAt s disk q
asked_at s log earlier later e disk bio q history split takes asks = record {
  header = header;
  at = there.1;
  lies = subst (λ (r : Request). LiesInside r header) its there.2;
  disk_is = ap (λ (r : Request). r.disk) (sym its) ∙ asked.disk_is;
  sizes = facts.sizes;
  sizes_are = facts.at;
  sector_is = facts.sector;
  size_is = facts.size;
}
  where
    asked : AsksInside (opened_by s) disk e.outcome
    asked =
        disks_are_asked.inside s.plan s.facts history.plan.begins history.facts log history.lawful.0 earlier e
        (later, split) disk bio takes

    its : asked.request ≡ q
    its = let same : outcomes.Asked q ≡ outcomes.Asked asked.request = sym asks ∙ asked.is in cc

    there : (header : HeaderDisk) × (slice_get (opened_by s).disks disk ≡ Some header) × LiesInside asked.request header
    there = some_and_of (LiesInside asked.request) (slice_get (opened_by s).disks disk) asked.inside

    header : HeaderDisk
    header = there.0

    facts : HasFacts s.facts disk header
    facts =
        header_facts s.plan.disks s.facts disk header
        (subst (λ (ds : List HeaderDisk). slice_get ds disk ≡ Some header) (opening_disks s.plan s.facts) there.1)

-- a drive of a disk's sizes has those of the header
has_sizes : (s : MeshStart) (disk : ℕ) (q : Request) (asked : IsAskedAt s disk q) (d : DriveView)
    → HasSizesOf s disk d → HasSizes d asked.header
has_sizes s disk q asked d of = record {
  sector = sym (asked.sector_is ∙ ap (λ (n : ℕ × ℕ). n.0) same);
  size = asked.size_is ∙ ap (λ (n : ℕ × ℕ). n.0 * n.1) same;
}
  where
    same : asked.sizes ≡ (d.sector, d.count)
    same = let two : Some asked.sizes ≡ Some (d.sector, d.count) = sym asked.sizes_are ∙ of in cc

-- so a drive of the disk's sizes can serve what a Take asks
pub asked_of : (y : YardView MeshStart) (p q : MeshPass) (disk bio : ℕ) (request : Request) → IsPassOf y p
    → IsGoodPass q → MakesStep y.start p q (steps.Take disk bio) (outcomes.Asked request)
    → IsAskedOf y.start disk request
asked_of y p q disk bio request of good made = record {
  disk_is = asked.disk_is;
  stands = ap is_some asked.sizes_are;
  can = λ d sizes. servable.can d (has_sizes s disk request asked d sizes);
}
  where
    s : MeshStart
    s = y.start

    e : Entry
    e = entry_of p.number (steps.Take disk bio) (outcomes.Asked request)

    w : World
    w = replay (opened_by s) made.before

    history : IsHistory (mesh_of s q.seen)
    history = history_of y q (still_of y p q (e ∷ []) of made.goes) good

    asked : IsAskedAt s disk request
    asked = asked_at s q.seen made.before [] e disk bio request history made.ends refl refl

    front : Legal (opened_by s) made.before
    front =
        Legal-front (opened_by s) made.before (e ∷ [])
        (subst (λ (l : List Entry). Legal (opened_by s) l) made.ends history.lawful.0)

    firm : Firm w
    firm = firm_after s.plan s.facts history.plan.begins history.facts made.before

    header_then : slice_get w.disks disk ≡ Some asked.header
    header_then =
        ap (λ (ds : List HeaderDisk). slice_get ds disk)
        (disks_are_asked.disks s.plan s.facts history.plan.begins history.facts made.before front)
        ∙ asked.at

    servable : IsServable w made.after p.number bio request asked.header
    servable =
        takes_are_servable w made.after p.number disk bio request asked.header firm made.does header_then asked.lies
