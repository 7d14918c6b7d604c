-- Each turn passes one byte.
use Rattle.std.proofs.Common.{Bor, List, Option, arith, ℕ, ap, ap₂, sym, ◌∙◌, ◌≡◌, ◌<◌, ◌+◌, ◌==◌, ◌&&◌, not, get_or, length, take, drop, None, Some, option_map}
use Rattle.std.proofs.lemmas.Option.{slice_get-get_or}
use Rattle.definitions.specs.Facets.{backslash}
use Rattle.definitions.specs.FieldPaths.{field_at_split}
use Rattle.terms.specs.declared.field.Field.{Field}
use Rattle.schema.proofs.FieldSplits.{found_past, found_past-dot, found_past-escaped, found_past-other, last_field, last_field-at, splits_after, splits_after-nil}
use Rattle.schema.proofs.schema.Schema.find_before_dot.Goals as goal
use Rattle.schema.proofs.schema.Schema.find_before_dot.Goals.{then-not-escaped+then-byte-eq46+in-Some, then-not-escaped+then-byte-eq46+in_default, else-not-escaped, else-not-escaped-via-then-not-escaped+else-byte-eq46, else-not-escaped-via-else-not-escaped, then-not-escaped-2, else-not-escaped-2}

-- an answer as clauses see it
abbrev seen : Option (Field × Bor (List ℕ)) → Option (ℕ × List ℕ)
seen = option_map (λ p. (p.0, p.1.now))

pub loop-i-init : goal.loop-i-init
loop-i-init c = ap (last_field c.args.self.now None) (splits_after-nil c.args.path.now)

pub field_before-requires : goal.field_before-requires
field_before-requires c =
    let path = c.args.path.now in
    let inside : c.loop-i.i < length path = omega (arith, ap length c.as_bytes-byte-items.ensures.value) in
    let dot : get_or path c.loop-i.i 0 ≡ 46 = cc (c.if-byte-eq46.true) in
    slice_get-get_or path c.loop-i.i 0 inside ∙ ap Some dot

pub loop-i-preserved : goal.loop-i-preserved
loop-i-preserved c =
    let path = c.args.path.now in
    let i = c.loop-i.i in
    let found = seen c.loop-i.found in
    let inside : i < length path = omega (arith, ap length c.as_bytes-byte-items.ensures.value) in
    let found_is : seen c.if-not-escaped.found ≡ found_past c.args.self.now found (take i path) c.loop-i.escaped (get_or path i 0) (drop (i + 1) path) =
    elim c.if-not-escaped.branch [
      | then-not-escaped+then-byte-eq46+in-Some w ↦
          let dot : get_or path i 0 ≡ 46 = cc (w.if-byte-eq46.true) in
          let here : Some (w.in-Some.split.0, w.in-Some.split.1.now) ≡ field_at_split c.args.self.now (take i path, drop (i + 1) path) = ap seen (sym w.in-Some.is) ∙ w.field_before.ensures in
          ap seen w.found-is ∙ sym (found_past-dot c.args.self.now found (take i path) (drop (i + 1) path) c.loop-i.escaped (get_or path i 0) _ w.if-not-escaped.true dot here)
      | then-not-escaped+then-byte-eq46+in_default w ↦
          let dot : get_or path i 0 ≡ 46 = cc (w.if-byte-eq46.true) in
          let here : None ≡ field_at_split c.args.self.now (take i path, drop (i + 1) path) = ap seen (sym w.in_default.is) ∙ w.field_before.ensures in
          ap seen w.found-is ∙ sym (found_past-dot c.args.self.now found (take i path) (drop (i + 1) path) c.loop-i.escaped (get_or path i 0) None w.if-not-escaped.true dot here)
      | else-not-escaped w ↦ elim w.else-not-escaped.branch [
        | else-not-escaped-via-then-not-escaped+else-byte-eq46 w' ↦
            ap seen w.found-is ∙ sym (found_past-other c.args.self.now found (take i path) (drop (i + 1) path) c.loop-i.escaped (get_or path i 0) (λ dot. w'.if-byte-eq46.false (ap (λ bytes. get_or bytes i 0) c.as_bytes-byte-items.ensures.value ∙ dot)))
        | else-not-escaped-via-else-not-escaped w' ↦
            ap seen w.found-is ∙ sym (found_past-escaped c.args.self.now found (take i path) (drop (i + 1) path) c.loop-i.escaped (get_or path i 0) w'.if-not-escaped.false)
      ]
    ] in
    let escaped_is : c.if-not-escaped-2.escaped ≡ (not c.loop-i.escaped && (get_or path i 0 == backslash)) =
    elim c.if-not-escaped-2.branch [
      | then-not-escaped-2 w ↦ w.escaped-is ∙ ap (λ bytes. get_or bytes i 0 == backslash) c.as_bytes-byte-items.ensures.value ∙ sym (ap (λ e. not e && (get_or path i 0 == backslash)) w.if-not-escaped-2.true)
      | else-not-escaped-2 w ↦ w.escaped-is ∙ ap not w.if-not-escaped-2.false ∙ sym (ap (λ e. not e && (get_or path i 0 == backslash)) w.if-not-escaped-2.false)
    ] in
    ap₂ (λ f e. last_field c.args.self.now f (splits_after (take (i + 1) path) e (drop (i + 1) path))) found_is escaped_is
    ∙ sym (last_field-at c.args.self.now found path i c.loop-i.escaped inside)
    ∙ c.loop-i.invariant
