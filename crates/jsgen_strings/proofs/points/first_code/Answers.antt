use Rattle.std.proofs.Common.{◌∙◌, arith}
use Rattle.jsgen_strings.proofs.Fronts.{front, first_is, is_one, is_two, is_three, is_four, at_least_two, at_least_three}
use Rattle.jsgen_strings.proofs.points.first_code.Goals as goal

pub returns-then-first-lt128 : goal.returns-then-first-lt128
returns-then-first-lt128 c =
    let bytes = c.args.bytes.now in
    let f = front bytes c.requires.points c.requires.some in
    let s = is_one bytes f c.if-first-lt128.true in
    s.first ∙ first_is bytes f

pub bounds-bytes-1 : goal.bounds-bytes-1
bounds-bytes-1 c =
    let bytes = c.args.bytes.now in
    let f = front bytes c.requires.points c.requires.some in
    let s = at_least_two bytes f c.if-first-lt128.false in
    omega arith

pub overflow_sub-second : goal.overflow_sub-second
overflow_sub-second c =
    let bytes = c.args.bytes.now in
    let f = front bytes c.requires.points c.requires.some in
    let s = at_least_two bytes f c.if-first-lt128.false in
    omega arith

pub overflow_sub-result : goal.overflow_sub-result
overflow_sub-result c =
    let bytes = c.args.bytes.now in
    let f = front bytes c.requires.points c.requires.some in
    let s = at_least_two bytes f c.if-first-lt128.false in
    omega arith

pub returns-then-first-lt224 : goal.returns-then-first-lt224
returns-then-first-lt224 c =
    let bytes = c.args.bytes.now in
    let f = front bytes c.requires.points c.requires.some in
    let s = is_two bytes f c.if-first-lt128.false c.if-first-lt224.true in
    let e = first_is bytes f in
    omega arith

pub bounds-bytes-2 : goal.bounds-bytes-2
bounds-bytes-2 c =
    let bytes = c.args.bytes.now in
    let f = front bytes c.requires.points c.requires.some in
    let s = at_least_three bytes f c.if-first-lt224.false in
    omega arith

pub overflow_sub-third : goal.overflow_sub-third
overflow_sub-third c =
    let bytes = c.args.bytes.now in
    let f = front bytes c.requires.points c.requires.some in
    let s = at_least_three bytes f c.if-first-lt224.false in
    omega arith

pub returns-then-first-lt240 : goal.returns-then-first-lt240
returns-then-first-lt240 c =
    let bytes = c.args.bytes.now in
    let f = front bytes c.requires.points c.requires.some in
    let s = is_three bytes f c.if-first-lt224.false c.if-first-lt240.true in
    let e = first_is bytes f in
    omega arith

pub bounds-bytes-3 : goal.bounds-bytes-3
bounds-bytes-3 c =
    let bytes = c.args.bytes.now in
    let f = front bytes c.requires.points c.requires.some in
    let s = is_four bytes f c.if-first-lt240.false in
    omega arith

pub overflow_sub-fourth : goal.overflow_sub-fourth
overflow_sub-fourth c =
    let bytes = c.args.bytes.now in
    let f = front bytes c.requires.points c.requires.some in
    let s = is_four bytes f c.if-first-lt240.false in
    omega arith

pub returns : goal.returns
returns c =
    let bytes = c.args.bytes.now in
    let f = front bytes c.requires.points c.requires.some in
    let s = is_four bytes f c.if-first-lt240.false in
    let e = first_is bytes f in
    omega arith
