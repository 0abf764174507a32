use Rattle.std.proofs.Common.{length}
use Rattle.bit_words.proofs.products.+product.Given as goal

abbrev pub decreases-product : goal.decreases-product
decreases-product l = length l.b.now
