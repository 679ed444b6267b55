use Rattle.std.proofs.Common.{◌≡◌, ◌+◌, ◌<◌, ◌^◌, true, false, sym, ap, ◌∙◌, arith, rules}
use Rattle.geo_names.specs.Names.{first_named}
use Rattle.geo_mesh.specs.Rows.{passes}
use Rattle.geo_mesh.specs.Named.{is_of_class}
use Rattle.geo_mesh.proofs.NamedLemmas.{named-by, named-none}
use Rattle.geo_mesh.proofs.named.first_of.Goals as goal

-- none before `at` is of class and name, and the next of the name is of the class: it is the first
pub returns-then-is_of_class : goal.returns-then-is_of_class
returns-then-is_of_class g c =
    let is = named-by c.args.kind c.args.name.now c.loop-geom.at c.in-Some.geom c.args.geoms.now.next
    c.args.names.now.rows c.args.geoms.now.rows c.requires c.is_of_class.ensures.rising c.in-Some.ensures in
    let class : is_of_class c.args.kind is.cell ≡ true =
    ap (passes (is_of_class c.args.kind)) (sym is.there) ∙ sym c.is_of_class.ensures.class ∙ c.if-is_of_class.true in
    sym (c.loop-geom.invariant.same ∙ is.here class)

-- the geom's number was given out, so there is a next one
pub overflow_add-at : goal.overflow_add-at
overflow_add-at g c =
    let is = named-by c.args.kind c.args.name.now c.loop-geom.at c.in-Some.geom c.args.geoms.now.next
    c.args.names.now.rows c.args.geoms.now.rows c.requires c.is_of_class.ensures.rising c.in-Some.ensures in
    let few : c.in-Some.geom + 1 < 2 ^ 64 = omega (arith, is.known, c.is_of_class.ensures.bound) in
    search rules

-- the geom found isn't before `at` and its number was given out, so fewer numbers are left behind it
pub loop-geom-smaller : goal.loop-geom-smaller
loop-geom-smaller g c =
    let is = named-by c.args.kind c.args.name.now c.loop-geom.at c.in-Some.geom c.args.geoms.now.next
    c.args.names.now.rows c.args.geoms.now.rows c.requires c.is_of_class.ensures.rising c.in-Some.ensures in
    omega (arith, is.known, is.past)

-- the next of the name is of another class, so the first of both comes behind it
pub loop-geom-preserved : goal.loop-geom-preserved
loop-geom-preserved g c =
    let is = named-by c.args.kind c.args.name.now c.loop-geom.at c.in-Some.geom c.args.geoms.now.next
    c.args.names.now.rows c.args.geoms.now.rows c.requires c.is_of_class.ensures.rising c.in-Some.ensures in
    let class : is_of_class c.args.kind is.cell ≡ false =
    ap (passes (is_of_class c.args.kind)) (sym is.there) ∙ sym c.is_of_class.ensures.class ∙ c.if-is_of_class.false in
    record { same = c.loop-geom.invariant.same ∙ is.behind class }

-- no geom of the name is left, so none of the class and the name
pub returns : goal.returns
returns g c =
    sym (c.loop-geom.invariant.same
    ∙ named-none c.args.kind c.args.name.now c.loop-geom.at c.args.geoms.now.rows
    (ap (λ rows. first_named rows c.args.name.now c.loop-geom.at) (sym c.requires) ∙ sym c.in_default.ensures))
