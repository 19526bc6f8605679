use Rattle.qx_names.proofs.names.Names.listed_whole.Goals as goal

pub returns : goal.returns
returns c = record {
  rising = λ directory. c.names_listed_whole.ensures.rising c.args.self.now directory (λ one two. c.named_once.ensures.once one two directory);
  whole = λ directory listings. c.names_listed_whole.ensures.whole c.args.self.now directory listings (λ one two. c.named_once.ensures.once one two directory);
  ends = λ directory listings. c.names_listed_whole.ensures.ends c.args.self.now directory listings (λ one two. c.named_once.ensures.once one two directory);
}
