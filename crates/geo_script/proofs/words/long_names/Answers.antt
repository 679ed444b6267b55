use Rattle.std.proofs.Common.{◌<◌, ◌≤◌, length, sym, arith, length-append, ◌∷◌, []}
use Rattle.std.proofs.lemmas.Bool.Decides.{nat_tests}
use Rattle.std.proofs.lemmas.Result.{err_from_is_err_and}
use Rattle.geo_base.specs.declared.limits.TheConstants.{MAX_COMPONENTS}
use Rattle.geo_script.proofs.FormLemmas.{names_fault, names_on}
use Rattle.geo_script.proofs.words.long_names.Goals as goal

-- fewer than 16 names were read and a word is left, so the model refuses the same word
pub returns-in_err-name : goal.returns-in_err-name
returns-in_err-name c =
    let p = err_from_is_err_and c.from_residual-in_err-name.result c.from_residual-in_err-name.ensures.1 in
    let few : length c.loop-names.names.items < MAX_COMPONENTS = omega (arith, c.loop-names.names.ok) in
    let some : 1 ≤ length c.loop-names.words = grind (arith, nat_tests) in
    rw (p.1, p.2)
    (names_fault c.loop-names.names.items c.loop-names.words c.args.words c.in_err-name.field-0.0 few some
    c.loop-names.invariant.some (sym c.in_err-name.ensures) c.loop-names.invariant.read)

-- the name is behind the others, and the words behind it are left, with room for one less
pub loop-names-preserved : goal.loop-names-preserved
loop-names-preserved c =
    let few : length c.loop-names.names.items < MAX_COMPONENTS = omega (arith, c.loop-names.names.ok) in
    let items = c.in_ok-push-2.ensures.items in
    record {
      read = rw items (names_on c.loop-names.names.items c.loop-names.words c.in_ok-name.name c.in_ok-name.rest _
          few (sym c.in_ok-name.ensures) c.loop-names.invariant.read);
      few = rw items (omega (arith, length-append c.loop-names.names.items (c.in_ok-name.name ∷ [])));
      some = c.loop-names.invariant.some;
    }
