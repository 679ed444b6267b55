-- A request that stands has what its commands need.
use Rattle.std.proofs.Common.{◌≡◌, ◌≢◌, ℕ, ◌+◌, ◌<◌, ◌≤◌, ◌^◌, ◌==◌, nat_lt, Bool, true, false, ◌||◌, List, length, Option, Some, None, if◌then◌else◌, refl, sym, subst, ◌∙◌, arith}
use Rattle.std.proofs.lemmas.Bool.Decides.{nat_tests}
use Rattle.geo_base.specs.declared.request.BioCmd.{BioCmd}
use Rattle.geo_base.specs.declared.request.BioCmd.TheVariants as cmds
use Rattle.geo_nbd.specs.declared.request.Request.{Request}
use Rattle.geo_nbd.specs.declared.numbers.TheConstants as numbers
use Rattle.geo_server.specs.declared.judging.Judged.{Judged}
use Rattle.geo_server.specs.declared.judging.Judged.TheVariants as judged
use Rattle.geo_server.specs.declared.judging.TheConstants.{MAX_TRANSFER}
use Rattle.geo_server.specs.Judging.{are_known, cmd_of, data_len, is_too_long, judge, judged_as, judged_cmd, judged_range, past_end}
use Rattle.geo_server.specs.Service.{asked_by}
use Rattle.geo_server.specs.Whole.{IsAsked}

-- neither of two tests holds
neither : (a b : Bool) → (a || b) ≡ false → (a ≡ false) × (b ≡ false)
neither true b is = absurd (let no : ⊥ = cc in no)
neither false b is = (refl, is)

-- a range that stands failed neither test, and keeps its command
third : (a b : Bool) (e f : ℕ) (was cmd : BioCmd)
    → (if a then judged.Fails e else (if b then judged.Fails f else judged.Stands was)) ≡ judged.Stands cmd
    → (a ≡ false) × (b ≡ false) × (was ≡ cmd)
third true b e f was cmd is = absurd (let no : ⊥ = cc in no)
third false true e f was cmd is = absurd (let no : ⊥ = cc in no)
third false false e f was cmd is = let same : was ≡ cmd = cc in (refl, refl, same)

-- a range that stands isn't empty, isn't too long, and isn't past the end
record Range (size : ℕ) (was cmd : BioCmd) (offset len : ℕ) : Type 0 where
  same : was ≡ cmd
  some : 0 < len
  short : is_too_long was len ≡ false
  inside : offset + len ≤ size

some_of : (len : ℕ) → (len == 0) ≡ false → 0 < len
some_of len is = grind (arith, nat_tests)

not_past : (size end : ℕ) → nat_lt size end ≡ false → end ≤ size
not_past size end is = grind (arith, nat_tests)

range_of : (size : ℕ) (was cmd : BioCmd) (offset len : ℕ)
    → judged_range size was offset len ≡ judged.Stands cmd → Range size was cmd offset len
range_of size was cmd offset len is =
    let t = third ((len == 0) || is_too_long was len) (nat_lt size (offset + len)) numbers.ERROR_INVALID (past_end was) was cmd is in
    let n = neither (len == 0) (is_too_long was len) t.0 in
    record { same = t.2; some = some_of len n.0; short = n.1; inside = not_past size (offset + len) t.1 }

-- a command that stands, by its kind; a write has its bytes
by_kind : (was cmd : BioCmd) (size : ℕ) (r : Request) (bytes : List ℕ) → size < 2 ^ 64 → r.offset < 2 ^ 64
    → (was ≡ cmds.Write → length bytes ≡ r.len) → judged_cmd size was r ≡ judged.Stands cmd
    → IsAsked (asked_by r cmd bytes)
by_kind cmds.Flush cmd size r bytes fits low whole is =
    let same : cmds.Flush ≡ cmd = cc in
    subst (λ (x : BioCmd). IsAsked (asked_by r x bytes)) same (record {
      whole = record {
        ends = omega (arith, low);
        within = omega arith;
        has_data = λ no. absurd (let f : ⊥ = cc in f);
        short = λ no. absurd (let f : ⊥ = cc in f);
      };
      left = λ other. absurd (other refl);
    })
by_kind cmds.Read cmd size r bytes fits low whole is =
    let b = range_of size cmds.Read cmd r.offset r.len is in
    let few = not_past MAX_TRANSFER r.len b.short in
    subst (λ (x : BioCmd). IsAsked (asked_by r x bytes)) b.same (record {
      whole = record {
        ends = omega (arith, fits, b.inside);
        within = omega arith;
        has_data = λ no. absurd (let f : ⊥ = cc in f);
        short = λ read. few;
      };
      left = λ other. b.some;
    })
by_kind cmds.Write cmd size r bytes fits low whole is =
    let b = range_of size cmds.Write cmd r.offset r.len is in
    subst (λ (x : BioCmd). IsAsked (asked_by r x bytes)) b.same (record {
      whole = record {
        ends = omega (arith, fits, b.inside);
        within = omega arith;
        has_data = λ write. whole refl;
        short = λ no. absurd (let f : ⊥ = cc in f);
      };
      left = λ other. b.some;
    })
by_kind cmds.Delete cmd size r bytes fits low whole is =
    let b = range_of size cmds.Delete cmd r.offset r.len is in
    subst (λ (x : BioCmd). IsAsked (asked_by r x bytes)) b.same (record {
      whole = record {
        ends = omega (arith, fits, b.inside);
        within = omega arith;
        has_data = λ no. absurd (let f : ⊥ = cc in f);
        short = λ no. absurd (let f : ⊥ = cc in f);
      };
      left = λ other. b.some;
    })

-- the first of two tests didn't hold, and the second did
stands_behind : (a : Bool) (other x : Judged) (cmd : BioCmd) → other ≢ judged.Stands cmd
    → (if a then other else x) ≡ judged.Stands cmd → x ≡ judged.Stands cmd
stands_behind true other x cmd apart is = absurd (apart is)
stands_behind false other x cmd apart is = is

stands_before : (a : Bool) (other x : Judged) (cmd : BioCmd) → other ≢ judged.Stands cmd
    → (if a then x else other) ≡ judged.Stands cmd → x ≡ judged.Stands cmd
stands_before true other x cmd apart is = is
stands_before false other x cmd apart is = absurd (apart is)

-- only one kind of request is a write
is_write : (a b c d e : Bool)
    → (if a then Some cmds.Read
    else (if b then Some cmds.Write
    else (if c then Some cmds.Flush
    else (if d then Some cmds.Delete
    else (if e then Some cmds.Delete else None))))) ≡ Some cmds.Write → b ≡ true
is_write true b c d e is = absurd (let no : ⊥ = cc in no)
is_write false true c d e is = refl
is_write false false true d e is = absurd (let no : ⊥ = cc in no)
is_write false false false true e is = absurd (let no : ⊥ = cc in no)
is_write false false false false true is = absurd (let no : ⊥ = cc in no)
is_write false false false false false is = absurd (let no : ⊥ = cc in no)

write_kind : (kind : ℕ) → cmd_of kind ≡ Some cmds.Write → (kind == numbers.REQUEST_WRITE) ≡ true
write_kind kind is =
    is_write (kind == numbers.REQUEST_READ) (kind == numbers.REQUEST_WRITE) (kind == numbers.REQUEST_FLUSH)
    (kind == numbers.REQUEST_TRIM) (kind == numbers.REQUEST_WRITE_ZEROES) is

-- so many bytes follow a write
follow : (write long : Bool) (len n : ℕ)
    → (if write then (if long then None else Some len) else Some 0) ≡ Some n → write ≡ true → n ≡ len
follow true true len n is write = absurd (let no : ⊥ = cc in no)
follow true false len n is write = let same : len ≡ n = cc in sym same
follow false long len n is write = absurd (let no : ⊥ = cc in no)

has_bytes : (r : Request) (bytes : List ℕ) → data_len r ≡ Some (length bytes) → cmd_of r.kind ≡ Some cmds.Write
    → length bytes ≡ r.len
has_bytes r bytes whole is =
    follow (r.kind == numbers.REQUEST_WRITE) (nat_lt MAX_TRANSFER r.len) r.len (length bytes) whole
    (write_kind r.kind is)

by_cmd : (o : Option BioCmd) (cmd : BioCmd) (size : ℕ) (r : Request) (bytes : List ℕ) → cmd_of r.kind ≡ o
    → size < 2 ^ 64 → r.offset < 2 ^ 64 → data_len r ≡ Some (length bytes)
    → judged_as size o r ≡ judged.Stands cmd → IsAsked (asked_by r cmd bytes)
by_cmd None cmd size r bytes kind fits low whole is = absurd (let no : ⊥ = cc in no)
by_cmd (Some was) cmd size r bytes kind fits low whole is =
    let fails : judged.Fails numbers.ERROR_INVALID ≢ judged.Stands cmd = λ e. (let no : ⊥ = cc in no) in
    by_kind was cmd size r bytes fits low
    (λ write. has_bytes r bytes whole (kind ∙ (let same : Some was ≡ Some cmds.Write = cc in same)))
    (stands_before (are_known r.kind r.flags) (judged.Fails numbers.ERROR_INVALID) (judged_cmd size was r) cmd fails is)

-- a request that stands, with the bytes that follow its head
pub asked_stands : (size : ℕ) (r : Request) (cmd : BioCmd) (bytes : List ℕ) → size < 2 ^ 64 → r.offset < 2 ^ 64
    → data_len r ≡ Some (length bytes) → judge size r ≡ judged.Stands cmd → IsAsked (asked_by r cmd bytes)
asked_stands size r cmd bytes fits low whole is =
    let ends : judged.Ends ≢ judged.Stands cmd = λ e. (let no : ⊥ = cc in no) in
    by_cmd (cmd_of r.kind) cmd size r bytes refl fits low whole
    (stands_behind (r.kind == numbers.REQUEST_DISCONNECT) judged.Ends (judged_as size (cmd_of r.kind) r) cmd ends is)
