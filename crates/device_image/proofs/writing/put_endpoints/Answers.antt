use borrow.Author.Rules.{rules}
use mathlib.Core.Path.{◌≡◌}
use Rattle.std.proofs.lemmas.List.{map-id}
use Rattle.device_image.specs.Image.{revoked, handle_word, address_word, ring_word}
use Rattle.device_image.proofs.writing.put_endpoints.Goals as goal

pub returns : goal.returns
unfolding handle_word address_word ring_word revoked
returns c =
    let eps = c.args.eps.now in
    let owners = c.args.owners.now in
    let a = c.put.ensures handle_word (λ e w p. let q : w ≡ revoked e.handle = search rules in q) in
    let b = c.put-2.ensures address_word (λ e w p. search rules) in
    let d = c.put-3.ensures (λ n. n) (λ n w p. search rules) in
    let e = c.put-4.ensures ring_word (λ e w p. search rules) in
    rw (e, d, b, a, map-id owners)
