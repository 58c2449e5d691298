use Rattle.std.proofs.Common.{◌≡◌, Ok, length, option_map, refl, subst, sym, true, ◌∙◌}
use Rattle.std.specs.List.{list_all}
use Rattle.serde_json.specs.Data.{object}
use Rattle.serde_json.specs.View.{view}
use Rattle.shell_face_json.specs.Text.Table.{layout_in}
use Rattle.shell_face_json.proofs.OfText.Tables.{nested_taken, table_taken}
use Rattle.shell_face_json.proofs.text.table.TableTakerValueTaker.take_value.Goals as goal

pub returns-in-Ok-clause-ok : goal.returns-in-Ok-clause-ok
returns-in-Ok-clause-ok g c =
    let keys = c.table_keys-keys.result in
    let found = c.take_object.new.found in
    let counted = subst (λ n. layout_in (option_map view found.0) (option_map view found.1.0) n ≡ Ok c.in-Ok.layout) c.len-lookup_count.ensures c.in-Ok.ensures in
    let all = c.in_ok-take_object.ensures.ok (refl, (refl, refl)) in
    let d = object all.0 in
    let lookups = c.items_or_none-lookups.result in
    let table = table_taken g.L.FromJson.font_value keys.1.1.taker.limit c.args.self.now.set_count keys.0.name.now keys.1.0.name.now keys.1.1.name.now d all.0 found.0 found.1.0 found.1.1 c.items_or_none-lookups.result c.in-Ok.layout
    c.table_keys-keys.ensures.names c.table_keys-keys.ensures.limit c.items_or_none-lookups.ensures refl all.2 counted in
    let nested : list_all (λ l. g.L.Lookup.fits (length lookups) l) lookups ≡ true =
    subst (λ n. list_all (λ l. g.L.Lookup.fits n l) lookups ≡ true) c.len-lookup_count.ensures (subst (λ xs. list_all (λ l. g.L.Lookup.fits c.len-lookup_count.result l) xs ≡ true) c.as_slice.ensures (sym c.all_fit.ensures ∙ c.if-not-all_fit.false)) in
    (d, all.1, (table.0, table.1, nested_taken (g.L.FromJson.font_value c.args.self.now.set_count) g.L.Lookup.fits d lookups table.2 nested))
