mod HolderLaws
