-- What a step of a taste comes to before anything is made of the provider.
use Rattle.std.specs.Prelude.{◌≡◌, ℕ, Bool, false, List, [], ◌∷◌, ◌++◌, length, Option, Some, None, Result, Ok, Err}
use Rattle.std.proofs.Common.{refl, ap, subst, sym, ◌∙◌, rules}
use Rattle.geo_laws_making.proofs.PlacedInside.{good_place}
use Rattle.geo_model.proofs.RefusalLemmas.{none_refused, none_behind}
use Rattle.geo_base.specs.declared.decline.DeclineCause.{DeclineCause}
use Rattle.geo_base.specs.declared.decline.DeclineCause.TheVariants as causes
use Rattle.geo_base.specs.declared.kind.Kind.{Kind}
use Rattle.geo_base.specs.declared.kind.Kind.TheVariants as kinds
use Rattle.geo_base.specs.declared.request.Counts.{Counts}
use Rattle.geo_model.specs.declared.class.Facts.{Facts}
use Rattle.geo_model.specs.declared.class.LabelRecord.{LabelRecord}
use Rattle.geo_model.specs.declared.class.Shape.{Shape}
use Rattle.geo_model.specs.declared.class.Shape.TheVariants.{Slices, Joined, Striped}
use Rattle.geo_model.specs.declared.class.Verdict.{Verdict}
use Rattle.geo_model.specs.declared.class.Verdict.TheVariants.{Decline, More, Accept}
use Rattle.geo_model.specs.Words.{first_error, unless}
use Rattle.geo_model.specs.World.{Taste, Config, ReadBack, Asked, NoClass, is_read_out}
use Rattle.geo_model.specs.Acceptance.{verdict_of, label_verdict, accept}
use Rattle.geo_model.specs.Chain.{Chain, with_link, link_tests, chain_verdict}
use Rattle.geo_model.specs.Records.{u16_at, u32_at, head_tests, place_test, size_test, concat_magic, stripe_magic, concat_tests, stripe_tests, mbr_table, label_record}
use Rattle.geo_model.specs.Tasting.{verdict_on, Judging, facts_of, with_read}
use Rattle.geo_class.specs.Taste.{sector_back, shape_of, verdict_back, after_verdict, ended, weighed}
use Rattle.geo_laws_texts.specs.RecordLaws.{IsPlace}
use Rattle.geo_taste.specs.Accepts.{NamesAPlace}
use Rattle.std.specs.Option.{option_map, option_map_or}
use Rattle.geo_model.specs.declared.class.Judged.TheVariants.{Next, Made}
use Rattle.geo_model.specs.declared.step.BioResult.{BioResult}
use Rattle.geo_model.specs.declared.step.BioResult.TheVariants.{Bytes}
use Rattle.geo_model.specs.declared.step.Event.{Event}
use Rattle.geo_model.specs.Events.{QueuedTopology}
use Rattle.geo_model.specs.Topology.{Provider}
use Rattle.geo_mesh.specs.Topo.{TopoView}
use Rattle.geo_access.specs.Access.{granted_by}
use Rattle.geo_taste.specs.Going.{going}
use Rattle.geo_taste.specs.Saying.{said_of, IsReadTaken, IsSaidOn, IsSaid}
use Rattle.geo_taste.specs.declared.judge.Said.{Said}
use Rattle.geo_taste.specs.declared.judge.Said.TheVariants.{Came, Accepts}
use Rattle.geo_taste.specs.Taster.{queued, IsTasteOf}
use Rattle.geo_model.specs.Bios.{read_back}

-- Places

-- the place in a record, before other tests
record_place : (bytes : List ℕ) (head rest : List (Bool × DeclineCause))
    → first_error (head ++ place_test (u16_at bytes 40) (u16_at bytes 42) ∷ rest) ≡ None
    → IsPlace (u16_at bytes 40) (u16_at bytes 42)
record_place bytes head rest none =
    good_place (u16_at bytes 40) (u16_at bytes 42)
    (none_refused (place_test (u16_at bytes 40) (u16_at bytes 42)).0 causes.Place rest
    (none_behind head (place_test (u16_at bytes 40) (u16_at bytes 42) ∷ rest) none)).0

-- a shape that names a place where its record does
shape_named : {A : Type 0} (make : A → Shape) (o : Option DeclineCause) (x : A) (shape : Shape)
    → (o ≡ None → NamesAPlace (make x)) → verdict_of make (unless o x) ≡ Accept shape → NamesAPlace shape
shape_named make None x shape named e = subst NamesAPlace (let same : make x ≡ shape = cc in same) (named refl)
shape_named make (Some cause) x shape named e = absurd (let no : ⊥ = cc in no)

-- a shape that names none
shape_any : {A : Type 0} (make : A → Shape) (r : Result A DeclineCause) (shape : Shape)
    → ((x : A) → NamesAPlace (make x)) → verdict_of make r ≡ Accept shape → NamesAPlace shape
shape_any make (Ok x) shape named e = subst NamesAPlace (let same : make x ≡ shape = cc in same) (named x)
shape_any make (Err cause) shape named e = absurd (let no : ⊥ = cc in no)

-- so of a label
label_of : (f : Facts) (r : Result LabelRecord DeclineCause) (shape : Shape) → label_verdict f r ≡ Accept shape
    → NamesAPlace shape
label_of f (Ok x) shape e = search rules
label_of f (Err cause) shape e = absurd (let no : ⊥ = cc in no)

-- and of a chain
chain_of : (c : Chain) (bytes : List ℕ) (o : Option DeclineCause) (shape : Shape)
    → chain_verdict c bytes o ≡ Accept shape → NamesAPlace shape
chain_of c bytes (Some cause) shape e = absurd (let no : ⊥ = cc in no)
chain_of c bytes None shape e = search rules

-- so is each shape that is accepted
pub verdict_named : (granted : ℕ → Counts) (s : Taste) (bytes : List ℕ) (f : Facts) (shape : Shape) (kind : Kind)
    → verdict_on granted s kind bytes f ≡ Accept shape → NamesAPlace shape
verdict_named granted s bytes f shape kinds.Mbr e = shape_any Slices (mbr_table bytes f.sectors) shape (λ x. tt) e
verdict_named granted s bytes f shape kinds.Ebr e =
    chain_of (with_link f.sectors s.chain bytes) bytes
    (first_error (link_tests f.sectors (with_link f.sectors s.chain bytes) bytes)) shape e
verdict_named granted s bytes f shape kinds.Label e = label_of f (label_record bytes) shape e
verdict_named granted s bytes f shape kinds.Concat e =
    shape_named Joined (first_error (concat_tests bytes)) _ shape
    (record_place bytes (head_tests concat_magic 1 bytes) []) e
verdict_named granted s bytes f shape kinds.Stripe e =
    shape_named Striped (first_error (stripe_tests bytes)) _ shape
    (record_place bytes (head_tests stripe_magic 1 bytes)
    (size_test (u32_at bytes 44) (length bytes) ∷ [])) e
verdict_named granted s bytes f shape _ e = absurd (let no : ⊥ = cc in no)

-- what accepts a sector that is back
pub record AcceptsBytes (granted : ℕ → Counts) (s : Taste) (f : Facts) (shape : Shape) : Type 0 where
  pub kind : Kind
  pub bytes : List ℕ
  pub asked : s.asked ≡ ReadBack kind (Bytes bytes)
  pub verdict : verdict_on granted s kind bytes f ≡ Accept shape

-- is what the verdict is on
pub accepts_bytes : (granted : ℕ → Counts) (s : Taste) (f : Facts) (shape : Shape)
    → verdict_back granted s f ≡ Some (Accept shape) → AcceptsBytes granted s f shape
accepts_bytes granted s f shape e = by s.asked refl e
  where
    by : (a : Asked) → s.asked ≡ a
        → option_map (λ (x : Kind × List ℕ). verdict_on granted s x.0 x.1 f) (sector_back a) ≡ Some (Accept shape)
        → AcceptsBytes granted s f shape
    by (ReadBack kind (Bytes bytes)) at is = search rules
    by _ at never = absurd (cc)

-- its shape is named too
pub back_named : (granted : ℕ → Counts) (s : Taste) (f : Facts) (shape : Shape)
    → verdict_back granted s f ≡ Some (Accept shape) → NamesAPlace shape
back_named granted s f shape e = search (rules, verdict_named granted s)

-- What is said

-- a taste that is done with a class has no chain, whatever was read
pub read-ended : (granted : ℕ → Counts) (s : Taste) (kind : Kind) (bytes : List ℕ) (f : Facts)
    → ended (with_read granted s kind bytes f) ≡ ended s
read-ended granted s kinds.Ebr bytes f = refl
read-ended granted s _ bytes f = refl

module _ (granted : ℕ → Counts) (q : QueuedTopology Config) (s : Taste) (p : Provider) (kind : Kind) where
  -- what the tasted provider is known by
  abbrev f : Facts
  f = facts_of q.topology p

  -- a step that goes on with this taste
  abbrev next : Taste → Judging
  next z = record { queued = q; taste = z; judged = Next }

  module _ (bytes : List ℕ) (asked : s.asked ≡ ReadBack kind (Bytes bytes)) where
    -- each verdict
    taken_by : (w : Verdict) → verdict_on granted s kind bytes f ≡ w → (z : Taste) → z ≡ weighed granted s f (Some w)
        → IsReadTaken granted q s p kind (Bytes bytes) z (said_of (shape_of (Some w)))
    taken_by (Decline cause) e z same = search (rules, read-ended granted s kind bytes f)
    taken_by (More sector) e z same = search rules
    taken_by (Accept shape) e z same =
        search (
          rules,
          ap
              (λ y. option_map_or (λ made. let j : Judging = record { queued = made; taste = y; judged = Made } in j)
              (accept q p shape) (next y)) (read-ended granted s kind bytes f),
        )

  -- so what becomes of a read that is back
  pub taken : (got : BioResult) → s.asked ≡ ReadBack kind got → (v : Option Verdict) → v ≡ verdict_back granted s f
      → (z : Taste) → z ≡ weighed granted s f v → IsReadTaken granted q s p kind got z (said_of (shape_of v))
  taken (Bytes bytes) asked v is z same =
      let told : v ≡ Some (verdict_on granted s kind bytes f) =
      is ∙ ap (λ a. option_map (λ (x : Kind × List ℕ). verdict_on granted s x.0 x.1 f) (sector_back a)) asked in
      subst (λ o. IsReadTaken granted q s p kind (Bytes bytes) z (said_of (shape_of o))) (sym told)
      (taken_by bytes asked (verdict_on granted s kind bytes f) refl z (same ∙ ap (weighed granted s f) told))
  taken other asked v is z same = search rules

  -- also where it was weighed by facts that are those of the provider
  pub taken_told : (facts : Facts) → facts ≡ f → (got : BioResult) → s.asked ≡ ReadBack kind got
      → (r v : Option Shape) → r ≡ v → r ≡ shape_of (verdict_back granted s facts) → (z : Taste)
      → z ≡ weighed granted s facts (verdict_back granted s facts) → IsReadTaken granted q s p kind got z (said_of v)
  taken_told facts known got asked r v is told z same =
      subst (λ o. IsReadTaken granted q s p kind got z (said_of o))
      (ap (λ x. shape_of (verdict_back granted s x)) (sym known) ∙ sym told ∙ is)
      (taken got asked (verdict_back granted s f) refl z
      (same ∙ ap (λ x. weighed granted s x (verdict_back granted s x)) known))

-- what became of a read that is back, for the step
pub said_back : (t : TopoView Config) (s : Taste) (p : Provider) (z : Taste) (kind : Kind) (got : BioResult)
    (said : Said)
    → s.asked ≡ ReadBack kind got
    → ((events : List Event) → IsReadTaken (granted_by t) (queued t events) s p kind got z said)
    → IsSaidOn t s p t z said
said_back t s p z kind got (Came j) asked taken = search rules
said_back t s p z kind got (Accepts shape) asked taken = (
  refl,
  (taken []).0,
  (taken []).1,
  search rules,
)

-- where its provider is known
pub said_going : (t : TopoView Config) (s : Taste) (u : TopoView Config) (z : Taste) (said : Said) (facts : Facts)
    → Some facts ≡ option_map (facts_of t.topology) (going t.topology s)
    → ((p : Provider) → facts ≡ facts_of t.topology p → IsSaidOn t s p u z said) → IsSaid t s u z said
said_going t s u z said facts known on = search rules

-- A taste whose read isn't out holds nothing, however far a class has been asked

-- a taste of the same provider, by the same consumer, whose read isn't out
pub record IsAtRest (s z : Taste) : Type 0 where
  pub consumer : z.consumer ≡ s.consumer
  pub provider : z.provider ≡ s.provider
  pub idle : is_read_out z.asked ≡ false

-- the taste's consumer is that of any such taste
pub rest_tasting : (t : TopoView Config) (s z : Taste) → is_read_out s.asked ≡ false → IsAtRest s z → IsTasteOf t s
    → IsTasteOf t z
rest_tasting t s z idle rest is = search rules

-- one that is done with a class
pub ended_rest : (s : Taste) → IsAtRest s (ended s)
ended_rest s = record { consumer = refl; provider = refl; idle = refl }

-- a read that is back isn't out
pub back_idle : (got : BioResult) (a : Asked) → is_read_out (read_back got a) ≡ false
back_idle got NoClass = refl
back_idle got _ = refl

module _ (granted : ℕ → Counts) (s : Taste) (f : Facts) where
  -- after a verdict on a sector
  verdict_rest : (kind : Kind) (bytes : List ℕ) (v : Verdict) → IsAtRest s (after_verdict granted s kind bytes f v)
  verdict_rest kind bytes (More sector) = search rules
  verdict_rest kind bytes _ = ended_rest s

  -- after what is back, whatever it is
  back_rest : (o : Option (Kind × List ℕ))
      → IsAtRest s
      (option_map_or (λ (x : Kind × List ℕ). after_verdict granted s x.0 x.1 f (verdict_on granted s x.0 x.1 f)) o
      (ended s))
  back_rest None = ended_rest s
  back_rest (Some x) = verdict_rest x.0 x.1 (verdict_on granted s x.0 x.1 f)

  -- after a verdict that is known
  pub weighed_rest : (v : Option Verdict) → is_read_out s.asked ≡ false → IsAtRest s (weighed granted s f v)
  weighed_rest (Some (Accept shape)) idle = record { consumer = refl; provider = refl; idle = idle }
  weighed_rest _ idle = back_rest (sector_back s.asked)

-- so its consumer is the taste's still, once what is back was weighed
pub weighed_tasting : (granted : ℕ → Counts) (s : Taste) (f : Facts) (v : Option Verdict) (z : Taste)
    → z ≡ weighed granted s f v → (t : TopoView Config) (kind : Kind) (got : BioResult) → s.asked ≡ ReadBack kind got
    → IsTasteOf t s → IsTasteOf t z
weighed_tasting granted s f v z same t kind got asked is = search (rules, weighed_rest granted s f v)
