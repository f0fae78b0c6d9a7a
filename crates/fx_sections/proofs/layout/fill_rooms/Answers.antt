use Rattle.std.proofs.Common.{◌≡◌, ◌∙◌, rules, ℕ, ◌+◌, ◌*◌, ◌^◌, ◌<◌, ◌≤◌, List, ◌∷◌, ◌++◌, [], All, length, take, drop, set, get_or, sym, ap, subst, arith}
use Rattle.std.proofs.lemmas.List.{get_or_default}
use Rattle.std.proofs.lemmas.List.Elements.{All-push}
use Rattle.fx_sections.specs.declared.regions.Room.{Room}
use Rattle.fx_sections.specs.declared.regions.GlobalSize.{GlobalSize}
use Rattle.fx_sections.specs.Placement.{offsets, rooms_from}
use Rattle.fx_sections.proofs.Rooms.{length-rooms_from}
use Rattle.fx_sections.proofs.Offsets.{rooms_step, offsets_step, all_set, object_bounded, object_ordered}
use Rattle.fx_sections.proofs.layout.fill_rooms.Goals as goal

-- a section's number is a room's
inside : (n count i : ℕ) (os : List GlobalSize) (rooms : List Room) (d : GlobalSize) → i < length os → All (λ (o : GlobalSize). o.section < count) os → rooms ≡ rooms_from n (take i os) 0 count → (get_or os i d).section < length rooms
inside n count i os rooms d less there is = omega (arith, there i d less, ap length is, length-rooms_from n (take i os) 0 count)

pub slice_copy_out-room : goal.slice_copy_out-room
slice_copy_out-room c = inside c.args.n c.args.count c.loop-object.object-index c.args.objects.now c.loop-object.rooms (record { section = 0; size = 0 }) c.loop-object-test.true c.requires.there c.loop-object.invariant.rooms

pub bounds-rooms-object : goal.bounds-rooms-object
bounds-rooms-object c = inside c.args.n c.args.count c.loop-object.object-index c.args.objects.now c.loop-object.rooms (record { section = 0; size = 0 }) c.loop-object-test.true c.requires.there c.loop-object.invariant.rooms

pub offset_bounds-rooms-object : goal.offset_bounds-rooms-object
offset_bounds-rooms-object c =
    let h : (get_or c.args.objects.now c.loop-object.object-index (record { section = 0; size = 0 })).section < length c.loop-object.rooms = inside c.args.n c.args.count c.loop-object.object-index c.args.objects.now c.loop-object.rooms (record { section = 0; size = 0 }) c.loop-object-test.true c.requires.there c.loop-object.invariant.rooms in
    search (rules, h)

pub offset_bounds-rooms-object-in-loop-object : goal.offset_bounds-rooms-object-in-loop-object
offset_bounds-rooms-object-in-loop-object c =
    let h : (get_or c.args.objects.now c.loop-object.object-index (record { section = 0; size = 0 })).section < length c.loop-object.rooms = inside c.args.n c.args.count c.loop-object.object-index c.args.objects.now c.loop-object.rooms (record { section = 0; size = 0 }) c.loop-object-test.true c.requires.there c.loop-object.invariant.rooms in
    search (rules, h)

pub loop-object-preserved : goal.loop-object-preserved
loop-object-preserved c =
    let n = c.args.n in
    let count = c.args.count in
    let i = c.loop-object.object-index in
    let os = c.args.objects.now in
    let rooms = c.loop-object.rooms in
    let none : GlobalSize = record { section = 0; size = 0 } in
    let nowhere : Room = record { next = 0; end = 0 } in
    let o : GlobalSize = get_or os i none in
    let room : Room = get_or rooms o.section nowhere in
    let less = c.loop-object-test.true in
    let is : o ≡ get_or os i o = get_or_default os i none o less in
    let there : o.section < count = c.requires.there i none less in
    let within : o.section < length rooms = inside n count i os rooms none less c.requires.there c.loop-object.invariant.rooms in
    let at : room ≡ get_or rooms o.section room = get_or_default rooms o.section nowhere room within in
    let size : o.size ≤ 67108864 = c.requires.small i none less in
    let below : room.next ≤ 4128 + 67108896 * i = c.loop-object.invariant.small o.section nowhere within in
    let low : ℕ → Room → Type 0 = λ b (r : Room). r.next ≤ 4128 + 67108896 * b in
    let ordered : Room → Type 0 = λ (r : Room). r.end ≤ r.next in
    let few : i < 32000 = omega (arith, c.requires.few) in
    let start : room.next < 2 ^ 42 = omega arith in
    let grown : c.with_object.result.next ≤ 4128 + 67108896 * (i + 1) = omega (arith, object_bounded room o.size size, ap (λ (r : Room). r.next) c.with_object.ensures) in
    record {
      rooms = ap (set rooms o.section) c.with_object.ensures ∙ rooms_step n count i os o rooms room less is there c.loop-object.invariant.rooms at;
      offsets = ap (λ l. l ++ offsets n (take (i + 1) os) (drop (i + 1) os)) c.in_ok-push.ensures.items ∙ offsets_step n count i os o rooms room c.loop-object.offsets.items (offsets n [] os) less is there c.loop-object.invariant.rooms at c.loop-object.invariant.offsets;
      small = all_set (low i) (low (i + 1)) rooms o.section c.with_object.result within c.loop-object.invariant.small (λ r h. omega (arith, h)) grown;
      ordered = all_set ordered ordered rooms o.section c.with_object.result within c.loop-object.invariant.ordered (λ r h. h) (subst ordered (sym c.with_object.ensures) (object_ordered room o.size));
      starts = subst (All (λ s. s < 2 ^ 42)) (sym c.in_ok-push.ensures.items) (All-push (λ s. s < 2 ^ 42) c.loop-object.offsets.items room.next c.loop-object.invariant.starts start);
    }
