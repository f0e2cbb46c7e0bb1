use Rattle.std.proofs.Common.{◌≡◌, ◌∙◌, ◌<◌, length, ap, sym, arith, vec_len}
use Rattle.cxx_members.specs.Places.{place_in}
use Rattle.cxx_members.proofs.Placed.{place_within, comes_last, is_there_at, goes_in_at}
use Rattle.cxx_inherited.proofs.rows.add_fact.Goals as goal

pub index-requires : goal.index-requires
index-requires c =
    let xs = c.args.facts.now.items in
    let p = place_within c.args.fact xs in
    let e : c.place_of-place.result ≡ place_in c.args.fact xs = c.place_of-place.ensures ∙ ap (place_in c.args.fact) c.deref.ensures.value in
    let l : length xs ≡ vec_len c.args.facts.now = sym (ap length c.deref.ensures.value) ∙ c.deref.ensures.len in
    omega arith

pub insert-requires : goal.insert-requires
insert-requires c =
    let xs = c.args.facts.now.items in
    let p = place_within c.args.fact xs in
    let e : c.place_of-place.result ≡ place_in c.args.fact xs = c.place_of-place.ensures ∙ ap (place_in c.args.fact) c.deref.ensures.value in
    let l : length xs ≡ vec_len c.args.facts.now = sym (ap length c.deref.ensures.value) ∙ c.deref.ensures.len in
    omega arith

pub returns-in_ok-push : goal.returns-in_ok-push
returns-in_ok-push c =
    let xs = c.args.facts.now.items in
    let e : c.place_of-place.result ≡ place_in c.args.fact xs = c.place_of-place.ensures ∙ ap (place_in c.args.fact) c.deref.ensures.value in
    let l : length xs ≡ vec_len c.args.facts.now = sym (ap length c.deref.ensures.value) ∙ c.deref.ensures.len in
    let k : place_in c.args.fact xs ≡ length xs = omega arith in
    c.in_ok-push.ensures.items ∙ sym (comes_last c.args.fact xs k)

pub returns-in_ok-insert : goal.returns-in_ok-insert
returns-in_ok-insert c =
    let xs = c.args.facts.now.items in
    let p = place_within c.args.fact xs in
    let e : c.place_of-place.result ≡ place_in c.args.fact xs = c.place_of-place.ensures ∙ ap (place_in c.args.fact) c.deref.ensures.value in
    let l : length xs ≡ vec_len c.args.facts.now = sym (ap length c.deref.ensures.value) ∙ c.deref.ensures.len in
    let lt : c.place_of-place.result < length xs = omega arith in
    c.in_ok-insert.ensures.items ∙ goes_in_at c.args.fact xs c.place_of-place.result c.index.result.now e lt c.index.ensures c.if-index-fact.true

pub returns-else-index-fact : goal.returns-else-index-fact
returns-else-index-fact c =
    let xs = c.args.facts.now.items in
    let p = place_within c.args.fact xs in
    let e : c.place_of-place.result ≡ place_in c.args.fact xs = c.place_of-place.ensures ∙ ap (place_in c.args.fact) c.deref.ensures.value in
    let l : length xs ≡ vec_len c.args.facts.now = sym (ap length c.deref.ensures.value) ∙ c.deref.ensures.len in
    let lt : c.place_of-place.result < length xs = omega arith in
    is_there_at c.args.fact xs c.place_of-place.result c.index.result.now e lt c.index.ensures c.if-index-fact.false
