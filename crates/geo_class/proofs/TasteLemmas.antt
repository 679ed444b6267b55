-- What judging a sector says and makes of a taste, and that it is what the model's step makes of it.
use Rattle.std.proofs.Common.{◌≡◌, ℕ, ◌*◌, Bool, List, Some, Result, Ok, Err, true, false, refl, sym, ap, ◌∙◌, Option, None}
use Rattle.std.specs.Option.{option_map, option_map_or}
use Rattle.std.specs.Prelude.{unwrap_or, if◌then◌else◌}
use Rattle.geo_model.specs.DeclineCause.{DeclineCause}
use Rattle.geo_model.specs.DeclineCause.TheVariants as causes
use Rattle.geo_model.specs.Kind.{Kind}
use Rattle.geo_model.specs.Kind.TheVariants as kinds
use Rattle.geo_model.specs.Counts.{Counts}
use Rattle.geo_model.specs.declared.class.Facts.{Facts}
use Rattle.geo_model.specs.declared.class.LabelRecord.{LabelRecord}
use Rattle.geo_model.specs.declared.class.Shape.{Shape}
use Rattle.geo_model.specs.declared.class.Shape.TheVariants.{Named, Slices, Joined, Striped}
use Rattle.geo_model.specs.declared.class.Verdict.{Verdict}
use Rattle.geo_model.specs.declared.class.Verdict.TheVariants.{Decline, More, Accept}
use Rattle.geo_model.specs.Acceptance.{is_other_size, judge, label_verdict, verdict_of, accept}
use Rattle.geo_model.specs.Records.{mbr_table, label_record, concat_record, stripe_record}
use Rattle.geo_model.specs.Tasting.{verdict_on, end_class, facts_of, follow, take_result, with_read}
use Rattle.geo_model.specs.Chain.{Chain}
use Rattle.geo_model.specs.declared.step.BioResult.TheVariants.{Bytes}
use Rattle.geo_model.specs.World.{Asked, NoClass, NextSector, ReadBack, Taste, Config}
use Rattle.geo_class.specs.Taste.{after_back, after_verdict, chain_with, ended, sector_back, settled, shape_of, verdict_back, verdict_with, weighed}
use Rattle.geo_model.specs.declared.class.Judged.TheVariants.{Next, Made}
use Rattle.geo_model.specs.declared.step.BioResult.{BioResult}
use Rattle.geo_model.specs.Events.{QueuedTopology}
use Rattle.geo_model.specs.Topology.{Provider}
use Rattle.geo_class.specs.Following.{TastesFollow}

-- a verdict on a sector that was taken is one of the taste as it was
pub taken-weighed : (s : Taste) (kind : Kind) (block : List ℕ) (f : Facts) {t : Taste} {bytes : List ℕ} {said : Verdict}
    → said ≡ verdict_with t.chain kind bytes f → bytes ≡ block → t ≡ record s { asked = NoClass }
    → said ≡ verdict_with s.chain kind block f
taken-weighed s kind block f {t = t} said_is same taken =
    said_is ∙ ap (λ b. verdict_with t.chain kind b f) same
    ∙ ap (λ (z : Taste). verdict_with z.chain kind block f) taken

-- the taste once the sector that was taken is weighed
pub weighed_after : (s : Taste) (kind : Kind) (block : List ℕ) (f : Facts) (said : Verdict) {t z : Taste}
    {bytes : List ℕ} → z ≡ record t { chain = chain_with t.chain kind bytes f said } → bytes ≡ block
    → t ≡ record s { asked = NoClass }
    → z ≡ record s { asked = NoClass; chain = chain_with s.chain kind block f said }
weighed_after s kind block f said {t = t} after same taken =
    after
    ∙ ap (λ b. record t { chain = chain_with t.chain kind b f said }) same
    ∙ ap (λ (x : Taste). record x { chain = chain_with x.chain kind block f said }) taken

-- a verdict needs of the taste the chain alone
verdict-chain : (granted : ℕ → Counts) (s : Taste) (kind : Kind) (bytes : List ℕ) (f : Facts)
    → verdict_with s.chain kind bytes f ≡ verdict_on granted s kind bytes f
verdict-chain granted s kinds.Ebr bytes f = refl
verdict-chain granted s _ bytes f = refl

-- each class but EBR judges one sector, and has no chain
pub with-judge : (c : Chain) (kind : Kind) (bytes : List ℕ) (f : Facts) → (kind ≡ kinds.Ebr → ⊥)
    → judge kind bytes f ≡ verdict_with c kind bytes f
with-judge c kinds.Ebr bytes f other = absurd (other refl)
with-judge c _ bytes f other = refl

pub chain-stays : (c : Chain) (kind : Kind) (bytes : List ℕ) (f : Facts) (v : Verdict) → (kind ≡ kinds.Ebr → ⊥)
    → c ≡ chain_with c kind bytes f v
chain-stays c kinds.Ebr bytes f v other = absurd (other refl)
chain-stays c _ bytes f v other = refl

-- an accepted sector leaves the chain
chain-accepted : (c : Chain) (kind : Kind) (bytes : List ℕ) (f : Facts) (shape : Shape)
    → chain_with c kind bytes f (Accept shape) ≡ c
chain-accepted c kinds.Ebr bytes f shape = refl
chain-accepted c _ bytes f shape = refl

-- where more is wanted, the taste is the one after the verdict
more-chain : (granted : ℕ → Counts) (s : Taste) (kind : Kind) (bytes : List ℕ) (f : Facts) (sector : ℕ)
    → record s { asked = NextSector kind sector; chain = chain_with s.chain kind bytes f (More sector) }
    ≡ after_verdict granted s kind bytes f (More sector)
more-chain granted s kinds.Ebr bytes f sector = refl
more-chain granted s _ bytes f sector = refl

-- a sector that is back was asked for
back-is : (a : Asked) (kind : Kind) (bytes : List ℕ) → sector_back a ≡ Some (kind, bytes)
    → a ≡ ReadBack kind (Bytes bytes)
back-is (ReadBack k (Bytes b)) kind bytes is =
    ap (λ (x : Kind × List ℕ). ReadBack x.0 (Bytes x.1)) (ap (λ o. unwrap_or o (k, b)) is)
back-is _ kind bytes never = absurd (cc)

module _ (granted : ℕ → Counts) (s : Taste) (kind : Kind) (bytes : List ℕ) (f : Facts)
    (is : sector_back s.asked ≡ Some (kind, bytes)) where
  -- what the class says
  weighed-verdict : Some (verdict_with s.chain kind bytes f) ≡ verdict_back granted s f
  weighed-verdict =
      ap (λ v. Some v) (verdict-chain granted s kind bytes f)
      ∙ sym (ap (option_map (λ (x : Kind × List ℕ). verdict_on granted s x.0 x.1 f)) is)

  -- the taste after the verdict
  back-after : (v : Verdict) → v ≡ verdict_with s.chain kind bytes f
      → after_verdict granted s kind bytes f v ≡ after_back granted s f
  back-after v same =
      ap (after_verdict granted s kind bytes f) (same ∙ verdict-chain granted s kind bytes f)
      ∙ sym (ap (λ o. option_map_or
      (λ (x : Kind × List ℕ). after_verdict granted s x.0 x.1 f (verdict_on granted s x.0 x.1 f)) o (ended s)) is)

  -- and what the taste is
  weighed-taste : (v : Verdict) → v ≡ verdict_with s.chain kind bytes f
      → settled (record s { asked = NoClass; chain = chain_with s.chain kind bytes f v }) kind bytes v
      ≡ weighed granted s f (Some v)
  weighed-taste (More sector) same = more-chain granted s kind bytes f sector ∙ back-after (More sector) same
  weighed-taste (Decline cause) same = back-after (Decline cause) same
  weighed-taste (Accept shape) same =
      ap (λ c. record s { asked = ReadBack kind (Bytes bytes); chain = c })
      (chain-accepted s.chain kind bytes f shape)
      ∙ ap (λ a. record s { asked = a }) (sym (back-is s.asked kind bytes is))

  -- what it found, and what the taste is, by the verdict that is known
  pub weighed-shape : (v : Verdict) → v ≡ verdict_with s.chain kind bytes f
      → shape_of (Some v) ≡ shape_of (verdict_back granted s f)
  weighed-shape v same = ap (λ x. shape_of (Some x)) same ∙ ap shape_of weighed-verdict

  pub weighed-back : (v : Verdict) → v ≡ verdict_with s.chain kind bytes f
      → settled (record s { asked = NoClass; chain = chain_with s.chain kind bytes f v }) kind bytes v
      ≡ weighed granted s f (verdict_back granted s f)
  weighed-back v same =
      weighed-taste v same ∙ ap (weighed granted s f) (ap (λ x. Some x) same ∙ weighed-verdict)

-- The model's step

module _ (granted : ℕ → Counts) (q : QueuedTopology Config) (p : Provider) where
  -- a taste that is done with a class has no chain, whether or not the link was kept
  ended-read : (s : Taste) (kind : Kind) (bytes : List ℕ) (f : Facts)
      → ended (with_read granted s kind bytes f) ≡ ended s
  ended-read s kinds.Ebr bytes f = refl
  ended-read s _ bytes f = refl

  -- whether or not a geom was made the class is done with
  accepted-taste : (s : Taste) (made : Option (QueuedTopology Config))
      → (option_map_or (λ r. end_class granted r s Made) made (end_class granted q s Next)).taste ≡ ended s
  accepted-taste s (Some r) = refl
  accepted-taste s None = refl

  followed : (s : Taste) (kind : Kind) (bytes : List ℕ) (f : Facts) (v : Verdict)
      → (follow granted q (with_read granted s kind bytes f) p kind v).taste
      ≡ after_verdict granted s kind bytes f v
  followed s kind bytes f (Decline cause) = ended-read s kind bytes f
  followed s kind bytes f (More sector) = refl
  followed s kind bytes f (Accept shape) =
      accepted-taste (with_read granted s kind bytes f) (accept q p shape) ∙ ended-read s kind bytes f

  -- where the result is known
  taken : (s : Taste) (kind : Kind) (got : BioResult)
      → (take_result granted q s p kind got).taste
      ≡ option_map_or
      (λ (x : Kind × List ℕ). after_verdict granted s x.0 x.1 (facts_of q.topology p)
      (verdict_on granted s x.0 x.1 (facts_of q.topology p)))
      (sector_back (ReadBack kind got)) (ended s)
  taken s kind (Bytes bytes) =
      followed s kind bytes (facts_of q.topology p) (verdict_on granted s kind bytes (facts_of q.topology p))
  taken s kind _ = refl

pub tastes_follow : TastesFollow
tastes_follow granted q s p kind got asked =
    taken granted q p s kind got
    ∙ ap
    (λ (a : Asked). option_map_or
    (λ (x : Kind × List ℕ). after_verdict granted s x.0 x.1 (facts_of q.topology p)
    (verdict_on granted s x.0 x.1 (facts_of q.topology p)))
    (sector_back a) (ended s))
    (sym asked)
