-- The lines of the sizes of disks: those that are written are read, and the other way round.
use Rattle.std.proofs.Common.{◌≡◌, ℕ, ◌+◌, ◌*◌, ◌^◌, ◌<◌, ◌≤◌, ◌==◌, nat_le, Bool, true, false, ◌&&◌, List, [], ◌∷◌, ◌++◌, length, flat_map, zip, Result, Ok, Err, codes, decimal, if◌then◌else◌, refl, sym, ◌∙◌, ap, arith, subst, rules, inl, inr, leb-true, le-leb, append_assoc}
use Rattle.std.specs.List.{AllByRecursion, AllZip}
use Rattle.std.proofs.lemmas.Bool.{and_parts, and_from}
use Rattle.std.proofs.lemmas.List.Elements.{All-from_recursion}
use Rattle.geo_base.specs.Sectors.{IsSectorSize}
use Rattle.geo_base.specs.declared.limits.TheConstants.{MAX_IMAGE_BYTES}
use Rattle.geo_model.specs.declared.command.Cause.{Cause}
use Rattle.geo_model.specs.declared.command.DiskDecl.{DiskDecl}
use Rattle.geo_model.specs.declared.command.DiskKind.{DiskKind}
use Rattle.geo_model.specs.declared.command.DiskKind.TheVariants as disk_kinds
use Rattle.geo_model.specs.Plans.{IsDiskDecl, IsFact, HasSectors, HasPlanSectors}
use Rattle.geo_model.specs.Script.{◌>>=◌, Words, at_end, by_word, words_of}
use Rattle.geo_headline.specs.Outside.{is_shelf}
use Rattle.geo_headline.specs.Traces.{size_line, size_words, size_of_line, Reading, then_read, line_says, Sized, add_fact, read_sizes, parts_of, joined_parts}
use Rattle.geo_laws_traces.proofs.Lines.{some_part, first_part}
use Rattle.geo_laws_traces.proofs.Words.{AreWords, line_of, words_back, line_back, number_word, number_unended, ranged_back, AreRead, number_tells, by_word_tells, IsUnended, line_unended}

-- One line

-- the words of a line of so many sectors
abbrev disk_line : ℕ → Words
disk_line sectors = codes "%" ∷ codes "disk" ∷ decimal sectors ∷ []

-- some sectors of a size that fit a disk of the shelf
record IsDiskSize (sector sectors : ℕ) : Type 0 where
  some : 1 ≤ sectors
  limited : sectors * sector ≤ MAX_IMAGE_BYTES

-- what the reader asks of them
abbrev fits_disk : ℕ → ℕ → Bool
fits_disk sector sectors = nat_le 1 sectors && nat_le (sectors * sector) MAX_IMAGE_BYTES

-- they are few, as a sector isn't empty
few : (sector sectors : ℕ) → IsSectorSize sector → sectors * sector ≤ MAX_IMAGE_BYTES → sectors < 2 ^ 64
few sector sectors (inl is) limited = let below : sectors * 512 ≤ MAX_IMAGE_BYTES = rw is at limited in omega arith
few sector sectors (inr is) limited = let below : sectors * 4096 ≤ MAX_IMAGE_BYTES = rw is at limited in omega arith

-- the words are words
line_words : (sectors : ℕ) → sectors < 2 ^ 64 → AreWords (disk_line sectors)
line_words sectors fits = (search rules, (search rules, (number_word sectors fits, tt)))

-- the line is read
size_back : (sector sectors : ℕ) → IsSectorSize sector → IsDiskSize sector sectors
    → size_of_line sector (line_of (disk_line sectors)) ≡ Ok sectors
size_back sector sectors size is =
    let small : sectors < 2 ^ 64 = few sector sectors size is.limited in
    ap (λ ws. by_word ((codes "%", by_word ((codes "disk", size_words sector) ∷ [])) ∷ []) ws)
    (words_back (codes "%") (codes "disk" ∷ decimal sectors ∷ []) (line_words sectors small))
    ∙ ap (λ r. r >>= λ n. at_end n.0 n.1)
    (ranged_back (fits_disk sector) sectors [] small
    (and_from (nat_le 1 sectors) (nat_le (sectors * sector) MAX_IMAGE_BYTES) (le-leb 1 sectors is.some)
    (le-leb (sectors * sector) MAX_IMAGE_BYTES is.limited)))

-- it has no line feed
size_unended : (sectors : ℕ) → sectors < 2 ^ 64 → IsUnended (line_of (disk_line sectors))
size_unended sectors fits =
    line_unended (disk_line sectors) (search rules, (search rules, (number_unended sectors fits, tt)))

-- words that are read as a size are those of its line
record IsSize (sector : ℕ) (words : Words) (sectors : ℕ) : Type 0 where
  stands : words ≡ disk_line sectors
  fits : IsDiskSize sector sectors

-- behind `% disk`
disk_tells : (sector : ℕ) (words : Words) (sectors : ℕ) → size_words sector words ≡ Ok sectors
    → IsSize sector (codes "%" ∷ codes "disk" ∷ words) sectors
disk_tells sector =
    number_tells (λ ws n. IsSize sector (codes "%" ∷ ws) n) (codes "disk") (fits_disk sector) (λ n. n) (λ n fits passes.
    let both = and_parts (nat_le 1 n) (nat_le (n * sector) MAX_IMAGE_BYTES) passes in
    record {
      stands = refl;
      fits = record { some = leb-true 1 n both.0; limited = leb-true (n * sector) MAX_IMAGE_BYTES both.1 };
    })

-- a line that is read as a size
size_tells : (sector : ℕ) (line : List ℕ) (sectors : ℕ) → size_of_line sector line ≡ Ok sectors
    → IsSize sector (words_of line) sectors
size_tells sector line sectors e =
    by_word_tells (IsSize sector) ((codes "%", by_word ((codes "disk", size_words sector) ∷ [])) ∷ []) (
      λ words found is.
          by_word_tells (λ ws n. IsSize sector (codes "%" ∷ ws) n) ((codes "disk", size_words sector) ∷ [])
          (disk_tells sector, tt) words found is,
      tt,
    )
    (words_of line) sectors e

-- All lines

-- the sectors of a memory disk are those of the plan
plan_sectors : (kind : DiskKind) (sectors found : ℕ) → is_shelf kind ≡ false → HasPlanSectors kind sectors found
    → found ≡ sectors
plan_sectors disk_kinds.Ram sectors found memory has = has
plan_sectors disk_kinds.Shelf sectors found memory has = absurd (let bad : ⊥ = cc in bad)

-- one of the shelf may have any
shelf_sectors : (kind : DiskKind) (sectors found : ℕ) → is_shelf kind ≡ true → HasPlanSectors kind sectors found
shelf_sectors disk_kinds.Ram sectors found shelf = absurd (let bad : ⊥ = cc in bad)
shelf_sectors disk_kinds.Shelf sectors found shelf = tt

-- a memory disk has as many as the plan says, and they fit
memory_size : (kind : DiskKind) (sector sectors : ℕ) → is_shelf kind ≡ false → HasSectors kind sector sectors
    → IsDiskSize sector sectors
memory_size disk_kinds.Ram sector sectors memory has = record { some = has.0; limited = omega (arith, has.1) }
memory_size disk_kinds.Shelf sector sectors memory has = absurd (let bad : ⊥ = cc in bad)

-- a memory disk's size is read of no line
pub memory_step : (n : ℕ) (d : DiskDecl) (ds : List DiskDecl) (parts : List (List ℕ)) → is_shelf d.kind ≡ false
    → 1 ≤ length parts
    → read_sizes n (d ∷ ds) parts ≡ then_read (read_sizes n ds parts) (add_fact (d.sector, d.sectors))
memory_step n d ds [] memory some = absurd (omega arith)
memory_step n d ds (last ∷ []) memory some = rw memory refl
memory_step n d ds (line ∷ next ∷ parts) memory some = rw memory refl

-- that of a disk of the shelf is read of a line
pub shelf_step : (n : ℕ) (d : DiskDecl) (ds : List DiskDecl) (line : List ℕ) (parts : List (List ℕ)) (sectors : ℕ)
    → is_shelf d.kind ≡ true → 1 ≤ length parts → size_of_line d.sector line ≡ Ok sectors
    → read_sizes n (d ∷ ds) (line ∷ parts) ≡ then_read (read_sizes (n + 1) ds parts) (add_fact (d.sector, sectors))
shelf_step n d ds line [] sectors shelf some is = absurd (omega arith)
shelf_step n d ds line (next ∷ parts) sectors shelf some is = rw (shelf, is) refl

-- the lines of sizes before a text
abbrev pub sizes_before : List DiskDecl → List (ℕ × ℕ) → List ℕ → List ℕ
sizes_before ds facts text = flat_map size_line (zip ds facts) ++ text

-- one more of the shelf
shelf_before : (d : DiskDecl) (fact : ℕ × ℕ) (ds : List DiskDecl) (facts : List (ℕ × ℕ)) (text : List ℕ)
    → is_shelf d.kind ≡ true
    → sizes_before (d ∷ ds) (fact ∷ facts) text ≡ line_of (disk_line fact.1) ++ 10 ∷ sizes_before ds facts text
shelf_before d fact ds facts text shelf =
    rw shelf (append_assoc (line_of (disk_line fact.1) ++ 10 ∷ []) (flat_map size_line (zip ds facts)) text
    ∙ append_assoc (line_of (disk_line fact.1)) (10 ∷ []) (sizes_before ds facts text))

-- one more in memory
memory_before : (d : DiskDecl) (fact : ℕ × ℕ) (ds : List DiskDecl) (facts : List (ℕ × ℕ)) (text : List ℕ)
    → is_shelf d.kind ≡ false → sizes_before (d ∷ ds) (fact ∷ facts) text ≡ sizes_before ds facts text
memory_before d fact ds facts text memory = rw memory refl

-- what the reader finds of these sizes before a text
abbrev pub found_sizes : List (ℕ × ℕ) → ℕ → List ℕ → Reading Sized
found_sizes facts line text = Ok (record { facts = facts; line = line; rest = parts_of text })

-- the sizes that are written are read; the line behind them is somewhere
pub record AreSizesRead (n : ℕ) (ds : List DiskDecl) (facts : List (ℕ × ℕ)) (text : List ℕ) : Type 0 where
  pub line : ℕ
  pub read : read_sizes n ds (parts_of (sizes_before ds facts text)) ≡ found_sizes facts line text

-- one more disk
disk_back : (n : ℕ) (d : DiskDecl) (fact : ℕ × ℕ) (ds : List DiskDecl) (facts : List (ℕ × ℕ)) (text : List ℕ)
    → IsDiskDecl d → IsFact d fact → (t : Bool) → is_shelf d.kind ≡ t
    → ((m : ℕ) → AreSizesRead m ds facts text) → AreSizesRead n (d ∷ ds) (fact ∷ facts) text
disk_back n d fact ds facts text decl fits true shelf more =
    let line : List ℕ = line_of (disk_line fact.1) in
    let inner = more (n + 1) in
    let limited : fact.1 * d.sector ≤ MAX_IMAGE_BYTES =
    subst (λ (k : ℕ). fact.1 * k ≤ MAX_IMAGE_BYTES) fits.sector fits.limited in
    let is : IsDiskSize d.sector fact.1 = record { some = fits.some; limited = limited } in
    let small : fact.1 < 2 ^ 64 = few d.sector fact.1 decl.sector limited in
    record {
      line = inner.line;
      read =
          ap (λ xs. read_sizes n (d ∷ ds) (parts_of xs)) (shelf_before d fact ds facts text shelf)
          ∙ ap (read_sizes n (d ∷ ds))
          (first_part line (sizes_before ds facts text)
          (All-from_recursion (λ b. (b == 10) ≡ false) line (size_unended fact.1 small)))
          ∙ shelf_step n d ds line (parts_of (sizes_before ds facts text)) fact.1 shelf
          (some_part (sizes_before ds facts text)) (size_back d.sector fact.1 decl.sector is)
          ∙ ap (λ r. then_read r (add_fact (d.sector, fact.1))) inner.read
          ∙ ap (λ k. found_sizes ((k, fact.1) ∷ facts) inner.line text) (sym fits.sector);
    }
disk_back n d fact ds facts text decl fits false memory more =
    let inner = more n in
    let sectors : fact.1 ≡ d.sectors = plan_sectors d.kind d.sectors fact.1 memory fits.sectors in
    record {
      line = inner.line;
      read =
          ap (λ xs. read_sizes n (d ∷ ds) (parts_of xs)) (memory_before d fact ds facts text memory)
          ∙ memory_step n d ds (parts_of (sizes_before ds facts text)) memory
          (some_part (sizes_before ds facts text))
          ∙ ap (λ r. then_read r (add_fact (d.sector, d.sectors))) inner.read
          ∙ ap (λ k. found_sizes ((k, d.sectors) ∷ facts) inner.line text) (sym fits.sector)
          ∙ ap (λ k. found_sizes ((fact.0, k) ∷ facts) inner.line text) (sym sectors);
    }

pub sizes_back : (n : ℕ) (ds : List DiskDecl) (facts : List (ℕ × ℕ)) (text : List ℕ)
    → AllByRecursion IsDiskDecl ds → AllZip IsFact ds facts → AreSizesRead n ds facts text
sizes_back n [] [] text decls fit = record { line = n; read = refl }
sizes_back n [] (fact ∷ facts) text decls fit = absurd fit
sizes_back n (d ∷ ds) [] text decls fit = absurd fit
sizes_back n (d ∷ ds) (fact ∷ facts) text decls fit =
    disk_back n d fact ds facts text decls.0 fit.0 (is_shelf d.kind) refl
    (λ m. sizes_back m ds facts text decls.1 fit.1)

-- Read

-- what is read, and then what the rest gives
pub read_tells : {A B : Type 0} (first : Reading A) (next : A → Reading B) (found : B)
    → then_read first next ≡ Ok found → AreRead first next found
read_tells (Ok value) next found e = record { value = value; read = refl; rest = e }
read_tells (Err n) next found e = absurd (let bad : ⊥ = cc in bad)

-- what a line says, and then what the rest gives
pub line_tells : {A B : Type 0} (n : ℕ) (said : Result A Cause) (next : A → Reading B) (found : B)
    → line_says n said next ≡ Ok found → AreRead said next found
line_tells n (Ok value) next found e = record { value = value; read = refl; rest = e }
line_tells n (Err cause) next found e = absurd (let bad : ⊥ = cc in bad)

-- parts that are read as sizes are their lines, and then the rest
pub record AreSizes (ds : List DiskDecl) (parts : List (List ℕ)) (s : Sized) : Type 0 where
  pub spelled : joined_parts parts ≡ sizes_before ds s.facts (joined_parts s.rest)
  pub fit : AllZip IsFact ds s.facts
  pub some : 1 ≤ length s.rest

-- a line before others
pub joined_more : (line : List ℕ) (parts : List (List ℕ)) → 1 ≤ length parts
    → joined_parts (line ∷ parts) ≡ line ++ 10 ∷ joined_parts parts
joined_more line [] some = absurd (omega arith)
joined_more line (part ∷ parts) some = refl

-- one more disk, of so many sectors
more_told : (n : ℕ) (d : DiskDecl) (ds : List DiskDecl) (sectors : ℕ) (parts all : List (List ℕ)) (s : Sized)
    → then_read (read_sizes n ds parts) (add_fact (d.sector, sectors)) ≡ Ok s → IsFact d (d.sector, sectors)
    → ((facts : List (ℕ × ℕ)) (text : List ℕ) → joined_parts parts ≡ sizes_before ds facts text
    → joined_parts all ≡ sizes_before (d ∷ ds) ((d.sector, sectors) ∷ facts) text)
    → ((t : Sized) → read_sizes n ds parts ≡ Ok t → AreSizes ds parts t) → AreSizes (d ∷ ds) all s
more_told n d ds sectors parts all s e fact spelled more =
    let found = read_tells (read_sizes n ds parts) (add_fact (d.sector, sectors)) s e in
    let t : Sized = found.value in
    let inner : AreSizes ds parts t = more t found.read in
    let same : record t { facts = (d.sector, sectors) ∷ t.facts } ≡ s = let e = found.rest in cc in
    subst (λ (x : Sized). AreSizes (d ∷ ds) all x) same (record {
      spelled = spelled t.facts (joined_parts t.rest) inner.spelled;
      fit = (fact, inner.fit);
      some = inner.some;
    })

-- one of the shelf
shelf_told : (n : ℕ) (d : DiskDecl) (ds : List DiskDecl) (line : List ℕ) (parts : List (List ℕ)) (s : Sized)
    → is_shelf d.kind ≡ true → 1 ≤ length parts
    → line_says n (size_of_line d.sector line) (λ sectors.
    then_read (read_sizes (n + 1) ds parts) (add_fact (d.sector, sectors))) ≡ Ok s
    → ((t : Sized) → read_sizes (n + 1) ds parts ≡ Ok t → AreSizes ds parts t) → AreSizes (d ∷ ds) (line ∷ parts) s
shelf_told n d ds line parts s shelf some e =
    let said = line_tells n (size_of_line d.sector line) _ s e in
    let size = size_tells d.sector line said.value said.read in
    more_told (n + 1) d ds said.value parts (line ∷ parts) s said.rest (record {
      sector = refl;
      sectors = shelf_sectors d.kind d.sectors said.value shelf;
      some = size.fits.some;
      limited = size.fits.limited;
    })
    (λ facts text inner.
    joined_more line parts some ∙ ap (λ xs. line ++ 10 ∷ xs) inner
    ∙ ap (λ xs. xs ++ 10 ∷ sizes_before ds facts text) (sym (line_back line) ∙ ap line_of size.stands)
    ∙ sym (shelf_before d (d.sector, said.value) ds facts text shelf))

-- one in memory
memory_told : (n : ℕ) (d : DiskDecl) (ds : List DiskDecl) (parts : List (List ℕ)) (s : Sized)
    → IsDiskDecl d → is_shelf d.kind ≡ false
    → then_read (read_sizes n ds parts) (add_fact (d.sector, d.sectors)) ≡ Ok s
    → ((t : Sized) → read_sizes n ds parts ≡ Ok t → AreSizes ds parts t) → AreSizes (d ∷ ds) parts s
memory_told n d ds parts s decl memory e =
    let size : IsDiskSize d.sector d.sectors = memory_size d.kind d.sector d.sectors memory decl.sectors in
    more_told n d ds d.sectors parts parts s e
    (record {
      sector = refl;
      sectors = own_sectors d.kind d.sectors memory;
      some = size.some;
      limited = size.limited;
    })
    (λ facts text inner. inner ∙ sym (memory_before d (d.sector, d.sectors) ds facts text memory))
  where
    own_sectors : (kind : DiskKind) (sectors : ℕ) → is_shelf kind ≡ false → HasPlanSectors kind sectors sectors
    own_sectors disk_kinds.Ram sectors memory = refl
    own_sectors disk_kinds.Shelf sectors memory = absurd (let bad : ⊥ = cc in bad)

pub sizes_tell : (n : ℕ) (ds : List DiskDecl) (parts : List (List ℕ)) (s : Sized) → AllByRecursion IsDiskDecl ds
    → 1 ≤ length parts → read_sizes n ds parts ≡ Ok s → AreSizes ds parts s
sizes_tell n [] parts s decls some e =
    let same : record { facts = []; line = n; rest = parts } ≡ s = cc in
    subst (λ (x : Sized). AreSizes [] parts x) same (record { spelled = refl; fit = tt; some = some })
sizes_tell n (d ∷ ds) [] s decls some e = absurd (omega arith)
sizes_tell n (d ∷ ds) (last ∷ []) s decls some e =
    let memory : is_shelf d.kind ≡ false = grind (arith, e) in
    let rest : then_read (read_sizes n ds (last ∷ [])) (add_fact (d.sector, d.sectors)) ≡ Ok s = rw memory at e in
    memory_told n d ds (last ∷ []) s decls.0 memory rest (λ t is. sizes_tell n ds (last ∷ []) t decls.1 some is)
sizes_tell n (d ∷ ds) (line ∷ next ∷ parts) s decls some e =
    by (is_shelf d.kind) refl e
    (λ t is. sizes_tell (n + 1) ds (next ∷ parts) t decls.1 (omega arith) is)
    (λ t is. sizes_tell n ds (line ∷ next ∷ parts) t decls.1 some is)
  where
    by : (t : Bool) → is_shelf d.kind ≡ t
        → (if t
        then line_says n (size_of_line d.sector line) (λ sectors.
        then_read (read_sizes (n + 1) ds (next ∷ parts)) (add_fact (d.sector, sectors)))
        else then_read (read_sizes n ds (line ∷ next ∷ parts)) (add_fact (d.sector, d.sectors))) ≡ Ok s
        → ((u : Sized) → read_sizes (n + 1) ds (next ∷ parts) ≡ Ok u → AreSizes ds (next ∷ parts) u)
        → ((u : Sized) → read_sizes n ds (line ∷ next ∷ parts) ≡ Ok u → AreSizes ds (line ∷ next ∷ parts) u)
        → AreSizes (d ∷ ds) (line ∷ next ∷ parts) s
    by true shelf e behind same = shelf_told n d ds line (next ∷ parts) s shelf (omega arith) e behind
    by false memory e behind same = memory_told n d ds (line ∷ next ∷ parts) s decls.0 memory e same
