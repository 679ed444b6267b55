use Rattle.std.proofs.Common.{◌≡◌, ◌++◌, ◌≤◌, List, ℕ, length, take, true, refl, ap, ◌∙◌, arith, append_assoc}
use Rattle.std.specs.Int.{to_le_bytes, w16, w32}
use Rattle.geo_model.specs.Name.{is_short_name}
use Rattle.geo_model.specs.declared.class.StripeRecord.{StripeRecord}
use Rattle.geo_model.specs.Records.{padded, stripe_magic, record_head}
use Rattle.geo_class.proofs.FieldLemmas.{free-behind, holds-behind, length-behind}
use Rattle.geo_class.proofs.RecordLemmas.{length-head}
use Rattle.geo_class.proofs.stripe.record.encode.Goals as goal

-- what stands in front of the stripe size
abbrev front : List ℕ → ℕ → ℕ → ℕ → List ℕ
front name id place count = record_head stripe_magic 1 name ++
    (to_le_bytes w32 id ++ (to_le_bytes w16 place ++ to_le_bytes w16 count))

-- the last of five parts
regroup : (a b c d e : List ℕ) → (a ++ (b ++ (c ++ d))) ++ e ≡ a ++ (b ++ (c ++ (d ++ e)))
regroup a b c d e = simp append_assoc

-- once the component is written behind the head, both stand in the sector, and take 44 bytes
front_stands : (size : ℕ) (part : StripeRecord) (head out : List ℕ) → is_short_name part.name ≡ true → 48 ≤ size
    → head ≡ padded size (record_head stripe_magic 1 part.name)
    → out ≡ padded (length head) (take 36 head
    ++ (to_le_bytes w32 part.id ++ (to_le_bytes w16 part.place ++ to_le_bytes w16 part.count)))
    → (out ≡ padded size (front part.name part.id part.place part.count))
    × (length (front part.name part.id part.place part.count) ≡ 44)
front_stands size part head out short room begins written =
    let long = length-head stripe_magic 1 part.name refl short in (
      holds-behind size 36 (record_head stripe_magic 1 part.name)
          (to_le_bytes w32 part.id ++ (to_le_bytes w16 part.place ++ to_le_bytes w16 part.count)) head out begins long
          (omega arith) written,
      length-behind (record_head stripe_magic 1 part.name)
          (to_le_bytes w32 part.id ++ (to_le_bytes w16 part.place ++ to_le_bytes w16 part.count)) 36 8 long refl,
    )

-- the head has 36 bytes, and zeros stand behind it
pub put_component-requires-clause-free : goal.put_component-requires-clause-free
put_component-requires-clause-free c =
    free-behind (length c.args.out.now) 36 (record_head stripe_magic 1 c.args.part.now.name) c.encode_head.new.sector
    c.encode_head.ensures
    (length-head stripe_magic 1 c.args.part.now.name refl c.requires.short) (omega (arith, c.requires.room))

-- head and component have 44 bytes, and zeros stand behind them
pub put_u32-requires-clause-free : goal.put_u32-requires-clause-free
put_u32-requires-clause-free c =
    let stands = front_stands (length c.args.out.now) c.args.part.now c.encode_head.new.sector
    c.put_component.new.sector c.requires.short c.requires.room c.encode_head.ensures c.put_component.ensures in
    free-behind (length c.args.out.now) 44
    (front c.args.part.now.name c.args.part.now.id c.args.part.now.place c.args.part.now.count)
    c.put_component.new.sector stands.0 stands.1 (omega (arith, c.requires.room))

-- the stripe size stands behind head and component
pub returns : goal.returns
returns c =
    let stands = front_stands (length c.args.out.now) c.args.part.now c.encode_head.new.sector
    c.put_component.new.sector c.requires.short c.requires.room c.encode_head.ensures c.put_component.ensures in
    holds-behind (length c.args.out.now) 44
    (front c.args.part.now.name c.args.part.now.id c.args.part.now.place c.args.part.now.count)
    (to_le_bytes w32 c.args.part.now.stripe) c.put_component.new.sector c.put_u32.new.sector stands.0 stands.1
    (omega (arith, c.requires.room)) c.put_u32.ensures
    ∙ ap (padded (length c.args.out.now))
    (regroup (record_head stripe_magic 1 c.args.part.now.name) (to_le_bytes w32 c.args.part.now.id)
    (to_le_bytes w16 c.args.part.now.place) (to_le_bytes w16 c.args.part.now.count)
    (to_le_bytes w32 c.args.part.now.stripe))
