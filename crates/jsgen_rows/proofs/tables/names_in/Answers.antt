use Rattle.std.proofs.Common.{◌≡◌, [], ◌∷◌, ◌++◌, Ok, map, string_bytes, string_cmp, sym, ap, ap₂, ◌∙◌, subst, append_assoc}
use Rattle.std.proofs.lemmas.List.{map-append}
use Rattle.std.specs.List.Sorted.{IsStrictlySortedBy}
use Rattle.std.specs.Map.{keys_of}
use Rattle.std.specs.Str.{chars}
use Rattle.serde_json.specs.View.{view, members_view}
use Rattle.serde_json.proofs.Views.{Entry}
use Rattle.jsgen_tree.specs.Characters.{characters}
use Rattle.jsgen_fields.specs.Values.{after, names_in}
use Rattle.jsgen_rows.specs.Tables.{class_plain}
use Rattle.jsgen_rows.proofs.Names.{Name, key, named_last, read_one}
use Rattle.jsgen_rows.proofs.tables.names_in.Goals as goal

pub loop-key-preserved : goal.loop-key-preserved
loop-key-preserved c =
    let l = c.loop-key in
    let done = l.invariant.0 in
    let e : Entry = (c.in-Some.key.now, c.in-Some.member.now) in
    let left = c.next.new.self in
    let old = l.names.entries in
    let new : Name = (c.in_ok-name.name, c.in_ok-new_name.new_name) in
    let text = c.in_ok-text.text.now in
    let all : c.args.members.now.entries ≡ done ++ e ∷ left = l.invariant.1 ∙ ap (λ es. done ++ es) c.in-Some.ensures.steps in
    let named : string_bytes new.0 ≡ string_bytes e.0 = c.in_ok-name.ensures.ok ∙ c.as_str.ensures.value in
    let renamed : string_bytes new.1 ≡ text = c.in_ok-new_name.ensures.ok in
    let sorted = subst (λ es. IsStrictlySortedBy string_cmp (keys_of es)) all c.iter-key-items.ensures.ordered in
    let entries : c.insert.new.self.entries ≡ old ++ new ∷ [] = c.in_ok-insert.ensures.entries ∙ named_last done e left old new.0 new.1 sorted l.invariant.2 named in
    let rest = names_in c.args.at (members_view left) in (
      done ++ e ∷ [],
      all ∙ sym (append_assoc done (e ∷ []) left),
      ap (map key) entries ∙ map-append key old (new ∷ []) ∙ ap₂ (λ ks k. ks ++ k ∷ []) l.invariant.2 named ∙ sym (map-append key done (e ∷ [])),
      ap (λ es. after rest (λ ns. Ok (class_plain es ++ ns))) entries
          ∙ ap (λ p. after rest (λ ns. Ok (p ++ ns))) (map-append (λ m. (characters m.0, characters m.1)) old (new ∷ []))
          ∙ ap₂ (λ n t. after rest (λ ns. Ok ((class_plain old ++ (chars n, chars t) ∷ []) ++ ns))) named renamed
          ∙ read_one c.args.at (string_bytes e.0) text (view e.1) (members_view left) (class_plain old) c.in_ok-text.ensures
          ∙ ap (λ es. after (names_in c.args.at (members_view es)) (λ ns. Ok (class_plain old ++ ns))) (sym c.in-Some.ensures.steps)
          ∙ l.invariant.3,
    )
